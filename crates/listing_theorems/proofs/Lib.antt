pub mod InTurn
pub mod Printing
pub mod Ignored
