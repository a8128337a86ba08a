-- HMAC as FIPS 198-1 writes it, over the digest of SIMD v1.1, and when a key is refused.
pub mod Hmac
pub mod Refusal
