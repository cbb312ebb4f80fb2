pub mod Codes
pub mod Determined
