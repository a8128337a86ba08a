pub mod Inverse
pub mod Columns
