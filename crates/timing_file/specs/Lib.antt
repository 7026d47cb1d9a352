pub mod Causes
pub mod Forms
pub mod Subjects
pub mod Timing
pub mod Ranges
pub mod inner
