pub mod Put
pub mod Files
