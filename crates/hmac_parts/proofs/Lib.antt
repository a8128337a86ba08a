pub mod Keyed
pub mod Finishing
