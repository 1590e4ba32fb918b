pub mod Common
pub mod Soundness
pub mod Stepping
