pub mod Buffers
pub mod Fields
pub mod Views
pub mod Vectors
pub mod CheckedVectors
pub mod Members
pub mod Items
pub mod Names
pub mod Nested
pub mod Printed
pub mod References
pub mod Wheres
pub mod Written
pub use Rattle.planus_verify.specs as verify
