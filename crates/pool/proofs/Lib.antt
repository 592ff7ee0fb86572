pub mod Fitting
pub mod Balancing
pub mod Counting
pub mod Filling
