pub mod Cuts
pub mod Decisions
pub mod Integers
pub mod LastLines
pub mod Tests
pub mod Unended
