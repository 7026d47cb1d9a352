mod Changed
mod Contents
mod Designed
mod Firsts
mod WaysOut
pub mod Callers
