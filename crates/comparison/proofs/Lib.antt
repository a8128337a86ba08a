pub mod BitLaws
pub mod SharedLaws
pub mod FinalLaws
pub mod Theorems
