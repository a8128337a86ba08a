pub mod Effect
pub mod Standing
