pub mod Driving
pub mod Stepping
pub mod UndoRing
pub mod ShownParts
