pub mod Asked
pub mod Known
pub mod Layout
