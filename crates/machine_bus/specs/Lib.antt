pub mod Bus
pub mod Laws
