-- What the functions of the comparison say of the two messages.
pub mod Shared
