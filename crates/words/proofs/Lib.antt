pub mod Rotations
pub mod Exchanges
pub mod Columns
pub mod Runs
