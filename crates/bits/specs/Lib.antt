-- Lists of zeros, and bytes put behind a tail that may end within a byte.
pub mod Zero
pub mod Shift
