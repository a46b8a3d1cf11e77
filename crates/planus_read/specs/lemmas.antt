pub mod EnumLaws
pub mod NumberLaws
pub mod StructLaws
pub mod ArrayLaws
pub mod PartLaws
