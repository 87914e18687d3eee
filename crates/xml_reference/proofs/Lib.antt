pub mod NameLaws
pub mod DigitLaws
pub mod ReferenceLaws
pub mod EntityLaws
