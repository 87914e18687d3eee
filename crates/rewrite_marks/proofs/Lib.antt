pub mod RecordLaws
pub mod LengthLaws
pub mod FormLaws
pub mod WalkLaws
pub mod ResultLaws
