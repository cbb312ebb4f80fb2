pub mod Answers
pub mod SlotsLeft
