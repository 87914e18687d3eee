pub mod AsciiLaws
pub mod RowLaws
pub mod ByRowLaws
pub mod LaterLaws
pub mod PartLaws
pub mod SheetLaws
