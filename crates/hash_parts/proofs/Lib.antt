pub mod Starting
pub mod Refusing
pub mod Accepted
