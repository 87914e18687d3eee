pub mod SlotLaws
pub mod SpoiltLaws
pub mod TagLaws
pub mod PositionLaws
