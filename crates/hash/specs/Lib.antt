-- What the methods of an open hash answer, over the definition of SIMD v1.1 in the crate simd.
pub mod Open
pub mod Form
