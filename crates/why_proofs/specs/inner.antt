pub mod Reading
pub mod Judged
