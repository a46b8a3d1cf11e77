pub mod ContentLaws
pub mod GroupLaws
pub mod PreparingLaws
pub mod UnionContentLaws
pub mod StructLaws
pub mod VariantLaws
pub mod Same
