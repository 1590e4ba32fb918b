pub mod Benches
pub mod Effects
pub mod Offsets
pub mod Parts
pub mod Programs
pub mod Records
pub mod StateViews
pub mod Work
