pub mod BlankLaws
pub mod FitLaws
pub mod ValueLaws
