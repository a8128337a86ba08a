pub mod Finishing
mod Runs
mod Reached
pub mod Entries
pub mod Done
