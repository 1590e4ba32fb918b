pub mod Common
mod Integers
mod NameBytes
