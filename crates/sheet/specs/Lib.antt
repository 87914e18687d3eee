-- The specification
pub mod Column
pub mod Sheet
-- What is claimed of it
pub mod Claims
-- Worked examples
pub mod examples
