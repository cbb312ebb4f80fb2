pub mod Putting
pub mod Decimals
pub mod Sizes
pub mod Determined
