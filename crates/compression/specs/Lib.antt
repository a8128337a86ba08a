-- What the contracts of the compression cite besides the definition of SIMD.
pub mod Flat
