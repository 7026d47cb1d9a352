pub mod KeptSettings
pub mod Reading
