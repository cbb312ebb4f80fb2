pub mod Image
pub mod Rows
pub mod Theorem
