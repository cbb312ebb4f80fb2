pub mod Joining
pub mod Answered
pub mod Determined
