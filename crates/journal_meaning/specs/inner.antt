pub mod Counts
pub mod Pieces
