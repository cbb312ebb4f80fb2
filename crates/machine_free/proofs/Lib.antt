pub mod Determined
pub mod Live
pub mod Search
pub mod Tested
