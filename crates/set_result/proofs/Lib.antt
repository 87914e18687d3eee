pub mod PieceLaws
pub mod CountLaws
