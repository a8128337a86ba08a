-- The bits of a tail and of a piece behind them.
pub mod Joined
