pub mod Rows
pub mod Expanded
