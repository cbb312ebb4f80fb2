pub mod Changes
pub mod Taking
