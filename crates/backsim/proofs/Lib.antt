mod Explained
mod Ends
mod Halts
mod Asked
mod Ranges
mod Worked
