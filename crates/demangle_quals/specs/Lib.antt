pub mod Quals
