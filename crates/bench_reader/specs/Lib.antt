pub mod Causes
pub mod Lines
pub mod Views
pub mod Netlists
pub mod KeptNetlists
pub mod inner
