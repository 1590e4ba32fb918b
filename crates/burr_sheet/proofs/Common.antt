pub mod FailedMotions
pub mod LineMotions
