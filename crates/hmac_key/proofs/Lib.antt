pub mod Bytes
pub mod KeyBlock
