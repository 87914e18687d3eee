-- The specification: calls while an edit is open, and as bytes
pub mod Edit
pub mod Requests
-- What is claimed of it
pub mod EditLists
pub mod Held
-- Worked examples
pub mod examples
