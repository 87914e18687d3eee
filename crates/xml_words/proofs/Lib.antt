pub mod CodeLaws
pub mod NumberLaws
pub mod HexadecimalLaws
pub mod WordLaws
pub mod LetterLaws
