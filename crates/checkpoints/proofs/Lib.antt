pub mod Counts
pub mod Heads
pub mod States
pub mod Fresh
pub mod Carrying
pub mod Theorems
