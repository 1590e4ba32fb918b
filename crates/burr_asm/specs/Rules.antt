pub mod Assembling
pub mod FaultNames
pub mod Faults
pub mod SourceMaps
