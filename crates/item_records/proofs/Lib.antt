pub mod PieceRuns
pub mod ItemSizes
