pub mod Changes
pub mod Given
pub mod HeldSignals
pub mod KeptDesigns
pub mod Links
pub mod Said
pub mod Walk
pub mod HeardCells
