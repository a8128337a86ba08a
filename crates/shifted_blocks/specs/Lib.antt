-- Sources whose bytes are shifted.
pub mod Source
