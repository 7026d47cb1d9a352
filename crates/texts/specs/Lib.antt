pub mod Text
pub mod Made
pub mod line_faults
pub mod fields
