-- What the functions of the side-by-side run say of the two messages.
pub mod Lockstep
