pub mod Capacity
pub mod Handle
pub mod Numbers
pub mod Kept
pub mod Calls
