-- What a valid table is, and the result of an accepted call.
pub mod Pieces
pub mod Table
pub mod Valid
pub mod Result
pub mod Accepted
pub mod Limits
pub mod Forms
