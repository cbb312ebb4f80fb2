pub mod Answers
pub mod Determined
pub mod Onward
pub mod ByReleasesLaws
pub mod Going
