pub mod Modulo
pub mod Kind
pub mod Right
pub mod Theorems
