pub mod Files
pub mod Texts
pub mod Stops
pub mod Changes
pub mod inner
