pub mod BenchText
pub mod NamedRefusals
pub mod ReadWhole
pub mod Running
pub mod AfterRuns
