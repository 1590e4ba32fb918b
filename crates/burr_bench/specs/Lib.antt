pub mod BenchViews
pub mod Recorded
pub mod Safe
pub mod Sound
pub mod Soundness
pub mod Ways
