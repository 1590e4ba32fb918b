pub mod Counted
pub mod Pairs
