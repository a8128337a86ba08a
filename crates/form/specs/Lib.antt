-- What the contracts of this crate cite beside numbers in bytes and lists of zeros.
pub mod Head
pub mod Size
pub mod Cases
