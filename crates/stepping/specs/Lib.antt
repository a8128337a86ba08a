-- What the contracts of the two calls cite besides the definition of SIMD and the steps backward.
pub mod Call
