pub mod Allocations
pub mod Bitmaps
pub mod Laws
pub mod Stacks
