pub mod Forming
pub mod FromContainers
pub mod Judgements
pub mod LookViews
pub mod PointNumbers
pub mod Refusals
