pub mod Stores
pub mod Done
pub mod Crewed
pub mod Dumps
pub mod inner
