pub mod Parts
pub mod Nested
pub mod Inserted
pub mod Finishes
pub mod Ordered
pub mod Utf8
pub mod Packed
