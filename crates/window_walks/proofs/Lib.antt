mod Maximal
mod WalkLemmas
