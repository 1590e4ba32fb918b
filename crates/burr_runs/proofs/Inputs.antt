pub mod Cuts
pub mod Deciding
pub mod Digits
pub mod Form
pub mod OneInput
