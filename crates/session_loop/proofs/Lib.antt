mod Growing
mod Changes
mod Breaking
mod Served
mod Units
mod Questions
mod Taken
mod Scripts
mod Files
mod Pieces
mod WorkDone
mod EmptyStores
mod Dumping
pub mod Callers
