pub mod Demands
pub mod inner
