pub mod Bytes
pub mod WrittenOut
