-- What the contracts of the iteration cite besides the definition of SIMD.
pub mod Blocks
