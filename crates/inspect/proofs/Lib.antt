pub mod Closing
pub mod Indents
pub mod Listing
