pub mod OffsetLaws
