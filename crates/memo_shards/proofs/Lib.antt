mod Asking
mod Waits
mod Entries
mod Hearing
mod Freed
mod Endings
mod Seen
pub mod Callers
