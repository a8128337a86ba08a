-- What the methods of a keyed hash answer, over the definitions of the open hash.
pub mod Keyed
pub mod Form
