pub mod ChangeFound
pub mod Counted
pub mod Determined
pub mod Forwards
pub mod Issued
pub mod Stored
pub mod Takes
