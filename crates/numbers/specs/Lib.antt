pub mod Number
pub mod Sameness
