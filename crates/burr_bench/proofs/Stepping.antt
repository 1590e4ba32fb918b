pub mod Safe
pub mod Sound
pub mod Ways
