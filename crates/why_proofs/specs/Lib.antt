pub mod Spelling
pub mod Broken
pub mod Justified
pub mod Verdicts
pub mod Laws
pub mod inner
pub mod Known
