pub mod KeptShards
pub mod Asks
pub mod Ends
pub mod Steps
pub mod Grants
pub mod inner
pub mod Seen
