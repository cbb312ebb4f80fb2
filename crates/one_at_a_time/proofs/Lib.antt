pub mod Decoded
pub mod Determined
pub mod Runs
