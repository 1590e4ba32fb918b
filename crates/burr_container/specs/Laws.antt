pub mod PlanBytes
pub mod Upgrades
