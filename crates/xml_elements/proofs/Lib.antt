pub mod SlotLaws
pub mod CountLaws
pub mod ElementLaws
pub mod NameLaws
