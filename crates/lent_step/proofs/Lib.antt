pub mod Determined
pub mod Placing
