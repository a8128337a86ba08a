-- What the contracts of the steps cite besides the definition of SIMD.
pub mod Columns
pub mod Runs
