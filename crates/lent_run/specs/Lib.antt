pub mod ByReleases
pub mod Run
