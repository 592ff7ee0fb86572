pub mod Counts
pub mod Edits
pub mod Items
pub mod Laws
pub mod Reading
pub mod Trees
pub mod WellFormed
