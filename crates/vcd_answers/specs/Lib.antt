pub mod Dumps
pub mod Laws
pub mod Wires
pub mod inner
