pub mod AsideLaws
pub mod MotionLaws
pub mod PartLaws
pub mod RunLaws
pub mod SpaceLaws
pub mod StepLaws
