mod Same
mod PointOrder
pub mod Callers
