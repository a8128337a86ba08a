-- The two hashes of a keyed one: how each begins, and when they are such two.
pub mod Keyed
