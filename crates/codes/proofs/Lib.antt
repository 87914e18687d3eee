pub mod CodeLaws
pub mod SameLaws
pub mod LostLaws
pub mod FixedLaws
pub mod MarkerChains
pub mod CountLaws
