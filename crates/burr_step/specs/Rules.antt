pub mod StepTexts
pub mod Drive
pub mod DriveTexts
pub mod Moves
pub mod Stepper
