-- What the contracts of this crate cite beside the definitions of SIMD.
pub mod Rows
