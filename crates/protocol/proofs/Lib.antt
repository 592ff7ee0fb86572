pub mod Pathways
pub mod Asking
pub mod Telling
