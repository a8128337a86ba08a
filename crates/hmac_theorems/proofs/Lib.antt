pub mod Tags
pub mod Forms
pub mod Ignored
