-- The index beside a long record, and the calls that make and correct one.
pub mod Index
pub mod Calls
