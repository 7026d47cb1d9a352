pub mod Both
pub mod Sites
pub mod Steps
