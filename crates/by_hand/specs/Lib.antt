pub mod Kinds
pub mod Structs
pub mod Sites
pub mod Owners
pub mod Streams
