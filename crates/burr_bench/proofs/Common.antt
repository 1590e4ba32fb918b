pub mod FramedSetup
pub mod Machine
pub mod Records
