pub mod Replaced
pub mod Printed
pub mod Filtered
pub mod Fault
pub mod Progress
pub mod Tally
