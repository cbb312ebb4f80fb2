pub mod Adders
pub mod Checked
pub mod Determined
pub mod Exact
pub mod Four
pub mod Seen
pub mod Whole
