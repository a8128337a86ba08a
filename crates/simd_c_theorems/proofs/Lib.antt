pub mod Opening
pub mod Theorems
pub mod Restoring
pub mod Limit
pub mod Ignored
