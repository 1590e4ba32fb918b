pub mod Asides
pub mod Counts
pub mod InPlay
pub mod Lone
pub mod Parts
pub mod Shifts
