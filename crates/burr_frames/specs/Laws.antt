pub mod LookLaws
pub mod TransferLaws
