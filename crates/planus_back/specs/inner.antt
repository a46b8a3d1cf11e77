pub mod BackView
pub mod Blocks
pub mod Cells
pub mod IdentityHashes
pub mod Sound
