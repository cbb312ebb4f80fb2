pub mod Instructions
pub mod Check
pub mod Operands
pub mod Refusals
