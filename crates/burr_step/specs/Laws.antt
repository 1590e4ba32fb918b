pub mod StepperLaws
pub mod MoveLaws
