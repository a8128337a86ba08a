pub mod Cutting
pub mod Held
pub mod Advanced
pub mod Storing
pub mod OldForms
pub mod Theorems
