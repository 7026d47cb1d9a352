mod Heard
mod InTurn
mod Places
mod Joined
