mod Tops
mod Lists
mod PartLemmas
mod Keeps
