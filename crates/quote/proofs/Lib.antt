pub mod Refusals
pub mod Theorems
