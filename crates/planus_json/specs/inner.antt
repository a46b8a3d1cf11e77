pub mod Printing
pub mod Scalars
