pub mod InTurn
pub mod Parts
pub mod Places
pub mod Refusals
pub mod Turns
