pub mod CodePointLaws
pub mod PieceLaws
