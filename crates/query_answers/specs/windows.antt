pub mod Phases
pub mod Settlement
pub mod Strands
pub mod inner
