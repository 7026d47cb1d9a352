pub mod AskedMemos
