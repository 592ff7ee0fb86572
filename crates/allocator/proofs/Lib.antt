pub mod Meaning
pub mod Packed
pub mod Searching
pub mod Waiting
