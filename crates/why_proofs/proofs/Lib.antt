mod Lines
mod Feeds
mod Breaks
mod Checking
mod Fixed
mod Sound
mod Sources
mod KnownLemmas
mod Judging
pub mod Callers
