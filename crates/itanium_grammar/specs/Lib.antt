pub mod Tree
pub mod Cases
pub mod Grammar
pub mod Answer
pub mod Laws
