pub mod Instruction
pub mod LabelBytes
pub mod Labels
pub mod Laws
pub mod Meaning
pub mod PieceSets
pub mod Places
pub mod Stacks
