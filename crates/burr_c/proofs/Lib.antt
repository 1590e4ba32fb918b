mod Boxed
mod HandleValues
mod Heap
mod LooseValues
mod Opening
mod Printing
