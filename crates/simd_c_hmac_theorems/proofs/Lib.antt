pub mod Theorems
pub mod Restoring
pub mod Ignored
