pub mod Waiting
pub mod Gathered
