pub mod Executions
pub mod Pairs
pub mod SomeCall
pub mod SomeStep
