pub mod Causes
pub mod Forms
pub mod Stimulus
pub mod Named
pub mod Ranges
pub mod inner
