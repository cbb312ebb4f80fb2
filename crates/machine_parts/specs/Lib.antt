pub mod Altered
pub mod Answers
pub mod Back
pub mod TagOf
pub mod View
