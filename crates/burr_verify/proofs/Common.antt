pub mod CallRule
pub mod Costs
pub mod FromContainers
