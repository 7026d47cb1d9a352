pub mod Answer
pub mod Laws
pub mod Words
pub mod inner
