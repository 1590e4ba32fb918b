pub mod Ahead
pub mod Decided
pub mod Freedom
pub mod Naming
pub mod Turning
