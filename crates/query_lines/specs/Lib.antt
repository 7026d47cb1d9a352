pub mod Lines
pub mod Cutting
pub mod Units
pub mod Reading
pub mod Readers
pub mod Laws
pub mod Fit
pub mod inner
