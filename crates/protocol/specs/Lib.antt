pub mod Commands
pub mod Letters
pub mod Paths
pub mod Requests
pub mod Parsing
pub mod Refusals
pub mod Answers
pub mod Laws
