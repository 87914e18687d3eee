pub mod LimitLaws
pub mod RecordLaws
pub mod TextLaws
