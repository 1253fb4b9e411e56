pub mod Bytes
pub mod Symbol
pub mod Scalars
pub mod Indices
pub mod Texts
pub mod Ascii
