pub mod Callers
pub mod Calls
pub mod Near
pub mod Questions
pub mod Steps
