mod Feeding
mod Requests
mod Forms
mod Limits
mod Names
mod OwnLines
mod Determined
mod Completed
mod Rows
pub mod Callers
