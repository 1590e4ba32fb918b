pub mod Common
pub mod MeetingCells
pub mod Near
pub mod Overlapping
