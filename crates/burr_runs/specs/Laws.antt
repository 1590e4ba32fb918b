pub mod OutputLaws
pub mod UpgradeLaws
