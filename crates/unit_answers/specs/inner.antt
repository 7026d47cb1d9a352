pub mod Asked
pub mod Placed
pub mod Runs
pub mod Trims
