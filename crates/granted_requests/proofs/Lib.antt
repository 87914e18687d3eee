pub mod GrantedLaws
