pub mod ListLaws
pub mod MessageLaws
pub mod ByteLaws
pub mod PairLaws
pub mod PaddedLaws
pub mod FoundLaws
pub mod AnswerLaws
