pub mod Holding
pub mod Feeding
pub mod Splitting
pub mod Fitting
pub mod Digests
pub mod Refusing
pub mod Answers
pub mod Ignored
