-- Computed cases; the definitions stand in the crate `checkpoints`.
pub mod Cases
