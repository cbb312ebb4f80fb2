pub mod Run
pub mod Theorem
