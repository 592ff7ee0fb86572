pub mod Outlines
pub mod Reports
