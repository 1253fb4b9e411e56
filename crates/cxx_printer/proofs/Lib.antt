pub mod Appended
pub mod Declarators
pub mod Examples
pub mod Heights
pub mod Items
pub mod Packs
pub mod Symbols
pub mod Turns
