mod Alike
mod Loop
mod Steps
mod Within
pub mod Callers
