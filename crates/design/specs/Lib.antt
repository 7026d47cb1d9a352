pub mod Joined
pub mod KeptDesigns
pub mod Pins
pub mod Causes
pub mod Join
pub mod Laws
pub mod inner
pub mod PinWalks
