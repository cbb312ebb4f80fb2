pub mod Back
pub mod Determined
pub mod Made
pub mod Rows
