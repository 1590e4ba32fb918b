mod Dialogues
mod DriveAnswers
mod DriveLaws
pub mod Dialogued
mod OwnedSteps
mod MoveWords
pub mod CommandAnswers
pub mod CommandLines
pub mod Common
