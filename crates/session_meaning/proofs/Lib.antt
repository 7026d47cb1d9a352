mod Asked
mod StuckReplies
mod Dumps
mod Held
mod Legal
mod Enough
mod Journals
mod Shown
mod Spread
mod Again
mod Accepted
mod Narrow
mod Numbered
mod OneJournal
mod Whole
pub mod Callers
