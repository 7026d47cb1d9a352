pub mod Ends
pub mod Grants
pub mod KeptShards
pub mod View
