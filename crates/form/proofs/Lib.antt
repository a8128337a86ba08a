pub mod Forming
pub mod Current
