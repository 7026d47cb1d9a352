pub mod Asks
pub mod inner
