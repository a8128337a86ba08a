pub mod Columns
pub mod Reading
pub mod LineEnds
pub mod Distinct
pub mod Theorems
