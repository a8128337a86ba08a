pub mod Standings
mod Steps
