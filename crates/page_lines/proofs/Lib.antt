pub mod Accepted
mod InTurn
