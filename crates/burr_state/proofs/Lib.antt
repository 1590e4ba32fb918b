pub mod Common
pub mod Offers
pub mod Operands
pub mod Programs
pub mod Staying
pub mod Uniqueness
mod WorkedRuns
mod WorkedSteps
