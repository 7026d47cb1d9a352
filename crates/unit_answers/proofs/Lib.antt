mod Few
mod Trimming
mod Answering
mod Left
mod Done
mod Questions
mod Windows
mod Asking
mod Zips
mod Opening
mod Running
mod Dumping
mod Crewing
pub mod Callers
