mod Grouped
mod Instants
mod Places
mod Plain
mod Put
mod ReadBack
mod Sound
mod Windows
pub mod Callers
