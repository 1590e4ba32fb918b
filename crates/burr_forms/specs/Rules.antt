pub mod Conditions
pub mod Forms
pub mod Points
