pub mod Statuses
pub mod Stops
pub mod Work
