pub mod SevenBits
pub mod Told
