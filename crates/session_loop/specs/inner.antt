pub mod Desks
pub mod Growing
pub mod Halting
pub mod Outside
pub mod Pieces
pub mod Scripts
pub mod Serving
pub mod Telling
