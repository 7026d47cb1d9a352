pub mod Fills
pub mod Phases
pub mod Starts
