-- Examples by computation.
pub mod Pages
