-- What the contracts of the backward steps cite besides the definition of SIMD.
pub mod Unstep
