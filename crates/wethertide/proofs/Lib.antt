pub mod Determined
pub mod Entries
pub mod Logging
mod Room
