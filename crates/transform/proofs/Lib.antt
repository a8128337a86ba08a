pub mod Added
pub mod Whole
