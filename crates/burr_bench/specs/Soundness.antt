pub mod Framing
pub mod Invariant
pub mod Laws
pub mod Machine
pub mod Records
pub mod SafeRuns
pub mod Standing
