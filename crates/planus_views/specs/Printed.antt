-- The words of clauses and definitions of printed views, passed on from where they are defined.
pub use Rattle.std.specs.Option.{option_map}
pub use Rattle.planus_verify.specs.Schemas.{Shapes, shapes}
pub use Rattle.planus_verify.specs.Walks.{RootWalks}
pub use Rattle.planus_views.specs.Buffers.{IsVerifiedBuffer, IsVerifiedSized, VerifiesRoot}
pub use Rattle.planus_views.specs.Buffers.{VerifiesTable}
pub use Rattle.planus_views.specs.CheckedVectors.{checked_texts, checked_tables, checked_unions}
pub use Rattle.planus_views.specs.Fields.{IsMember}
pub use Rattle.planus_views.specs.Members.{ReturnsAs, checked_option, Checked, unknown}
pub use Rattle.planus_views.specs.Members.{member_tag, member_bytes, member_start, member_offset}
pub use Rattle.planus_views.specs.Names.{NameTexts, name_texts, names_of}
pub use Rattle.planus_views.specs.Nested.{IsNestedField, IsNestedRequired}
pub use Rattle.planus_views.specs.Vectors.{Returns}
pub use Rattle.planus_views.specs.Views.{view_table}
pub use Rattle.planus_views.specs.Wheres.{IsWhereBy, IsWhereFaultBy, default_limits}
pub use Rattle.planus_verify.specs.Whole.{is_whole}
