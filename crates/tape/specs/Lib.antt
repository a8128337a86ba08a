pub mod Run
pub mod Standing
