mod Naming
mod Keywords
mod Comments
mod Finding
mod Steps
mod Loop
mod Within
