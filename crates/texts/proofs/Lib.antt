mod Comments
mod Cuts
mod Digits
mod Finds
mod NameEnds
mod Stream
mod Tokens
mod Lines
mod Rows
mod Numbers
mod FieldLemmas
mod Items
pub mod Callers
