-- When the parts of a hash are legal, and when a byte string is a stored form.
pub mod Legal
pub mod Form
