pub mod Numbers
pub mod Accepted
pub mod Outputs
