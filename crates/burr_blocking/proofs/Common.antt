pub mod Counts
pub mod Displaced
pub mod Reversed
