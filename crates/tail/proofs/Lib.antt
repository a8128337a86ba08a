pub mod Sizes
pub mod Absorbing
pub mod Closing
