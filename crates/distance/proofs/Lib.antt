pub mod Bits
pub mod Codes
pub mod Matrix
pub mod Distance
