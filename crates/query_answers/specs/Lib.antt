pub mod asking
pub mod windows
pub mod explanations
pub mod stuck
