pub mod Apart
pub mod BySlots
pub mod Determined
pub mod Loops
pub mod Placed
