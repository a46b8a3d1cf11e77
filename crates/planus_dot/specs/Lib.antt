pub mod Rows
pub mod Types
pub mod Nodes
pub mod Edges
pub mod Graphs
pub mod Reading
