pub mod Advancing
pub mod Ending
