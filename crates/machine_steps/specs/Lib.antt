pub mod Advance
pub mod Chain
pub mod Lowest
pub mod Step
