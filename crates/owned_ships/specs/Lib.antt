pub mod Kind
pub mod Person
pub mod Port
pub mod Pos
pub mod Ship
