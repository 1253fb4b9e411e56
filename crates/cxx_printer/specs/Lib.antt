pub mod Words
pub mod Heads
pub mod Print
pub mod Prints
pub mod Asked
pub mod Symbol
pub mod Parts
pub mod Examples
