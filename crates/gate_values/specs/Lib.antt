pub mod Gates
pub mod Looks
pub mod Spelling
