pub mod Zeros
pub mod Filling
pub mod Parts
pub mod Stream
pub mod Front
pub mod Bytes
