mod Rules
mod Rows
mod Lexing
mod Turns
mod Walks
mod Document
mod Answer
mod Orders
