pub mod Slots
pub mod Blanks
pub mod States
pub mod Pools
pub mod Unfolding
pub mod Printing
pub mod Comparing
pub mod Laws
