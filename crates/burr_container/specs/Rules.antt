pub mod FaultNames
pub mod Faults
pub mod Fitting
pub mod Plans
pub mod Spelling
