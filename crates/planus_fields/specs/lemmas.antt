pub mod FieldLaws
pub mod ContentLaws
pub mod UnionContentLaws
