pub mod Determined
pub mod NotANumber
pub mod Same
