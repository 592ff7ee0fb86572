pub mod Moving
pub mod Letting
pub mod Framing
pub mod Putting
pub mod Printing
pub mod Comparing
