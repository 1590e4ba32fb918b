pub mod Accepting
pub mod Fitting
pub mod Fronts
pub mod Judging
pub mod Pass
pub mod PassLooks
pub mod WellFramed
