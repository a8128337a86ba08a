pub mod Constants
pub mod Making
