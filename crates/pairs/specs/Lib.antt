pub mod Lists
pub mod Pairs
pub mod Compared
pub mod Answer
pub mod Messages
