pub mod FilesInMemory
pub mod Heads
pub mod Slots
pub mod SureFiles
