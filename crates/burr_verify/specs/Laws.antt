pub mod LookingLaws
pub mod VerifyLaws
