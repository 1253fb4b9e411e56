pub mod Arguments
pub mod Files
pub mod Options
pub mod Output
