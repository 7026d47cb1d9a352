pub mod Index
pub mod Heads
pub mod Lists
pub mod SignalCells
pub mod Maps
pub mod Slots
pub mod Notes
