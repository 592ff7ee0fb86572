pub mod Accepting
pub mod Chains
pub mod Counting
pub mod Editing
pub mod Rereading
pub mod Seams
pub mod Starts
