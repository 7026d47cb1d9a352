mod Fields
mod Entries
mod Lines
mod Shards
mod WholeSections
pub mod Callers
