-- Units as XML
pub mod Words
pub mod Characters
pub mod Tokens
pub mod Places
pub mod Attributes
pub mod Elements
pub mod Write
pub mod Xml
-- The worked examples
pub mod examples
