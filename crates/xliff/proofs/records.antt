-- Bytes and records, both ways.
pub mod Marks
pub mod Read
pub mod Parse
pub mod Fits
