pub mod FallLaws
