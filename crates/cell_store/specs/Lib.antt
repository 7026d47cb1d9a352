pub mod Recency
pub mod inner
