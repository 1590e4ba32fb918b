pub mod Grid
pub mod Turns
pub mod Near
pub mod CellSets
pub mod SpaceLaws
