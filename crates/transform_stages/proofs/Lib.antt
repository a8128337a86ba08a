pub mod Level
pub mod Reduction
pub mod Stages
