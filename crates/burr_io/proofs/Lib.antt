pub mod Common
pub mod Flushing
pub mod Putting
