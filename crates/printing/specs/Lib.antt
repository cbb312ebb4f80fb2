pub mod Ascii
pub mod Text
pub mod Words
pub mod Lines
pub mod Put
pub mod Faults
