-- What the contracts of the rows of a step backward cite.
pub mod Rows
