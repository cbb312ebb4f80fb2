pub mod Advancing
pub mod Bridge
pub mod Determined
pub mod First
pub mod Moving
pub mod Segments
pub mod Stepping
pub mod Permits
