pub mod Stops
pub mod Outside
pub mod Serving
pub mod Halting
pub mod inner
