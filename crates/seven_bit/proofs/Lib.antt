pub mod Determined
pub mod Groups
pub mod NumberAt
pub mod Shortest
pub mod Put
pub mod Peel
