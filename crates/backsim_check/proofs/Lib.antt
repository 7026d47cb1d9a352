mod Clashes
mod Verdicts
mod Read
mod Judged
