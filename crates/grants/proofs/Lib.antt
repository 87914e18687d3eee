pub mod OutcomeLaws
pub mod ViewLaws
pub mod ListLaws
pub mod HalfLaws
pub mod BoundLaws
