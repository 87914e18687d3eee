pub mod Widths
pub mod Ascii
pub mod Columns
pub mod Fewest
pub mod Parts
pub mod Rows
pub mod Sheets
