pub mod Determined
pub mod Sums
pub mod Weights
