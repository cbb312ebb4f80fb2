pub mod Entries
pub mod Logging
