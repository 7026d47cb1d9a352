pub mod Bases
pub mod Demands
pub mod Names
pub mod Stacks
