pub mod InTurn
pub mod Parts
pub mod Refusals
pub mod inner
pub mod asked
