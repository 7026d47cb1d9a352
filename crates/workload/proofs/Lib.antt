mod States
mod WrittenLines
