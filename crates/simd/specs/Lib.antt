-- The definition of SIMD v1.1, in the order of its public document (sections 1.1 and 1.2) and once for both families.
-- Bits, bytes and words are natural numbers: a bit is 0 or 1, a byte is below 256, a word below 2^32. Strings of them are lists.
pub mod Basic
pub mod Constants
pub mod Message
pub mod Expansion
pub mod Steps
pub mod Hash
pub mod Cases
