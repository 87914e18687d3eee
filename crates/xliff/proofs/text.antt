-- UTF-8, both ways.
pub mod Utf8
