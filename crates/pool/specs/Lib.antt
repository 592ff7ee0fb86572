pub mod Cells
pub mod Steps
pub mod Counts
pub mod Laws
