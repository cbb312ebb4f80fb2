pub mod Whole
pub mod Rows
pub mod FileFaults
pub mod Beginning
pub mod Cells
pub mod Stages
pub mod ToldRun
pub mod Determined
