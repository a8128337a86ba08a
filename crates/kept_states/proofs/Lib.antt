pub mod Counts
pub mod Keeping
pub mod Running
