pub mod Eight
pub mod Ends
pub mod Fours
