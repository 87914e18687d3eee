-- The specification: what is granted, the view, a request with a grant
pub mod Grant
pub mod View
pub mod Requests
-- What is claimed of it
pub mod GrantedLists
pub mod Bound
-- Worked examples
pub mod examples
