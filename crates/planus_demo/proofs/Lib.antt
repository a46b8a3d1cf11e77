pub mod Fields
pub mod Dumping
mod WorkedRows
