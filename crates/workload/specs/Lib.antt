pub mod Draws
pub mod Texts
pub mod Workload
pub mod inner
