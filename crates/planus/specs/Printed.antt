-- The words of clauses, definitions and proofs of printed code, passed on from where they are defined.
pub use lib.Ieee.{of_bits, binary32, binary64}
pub use Rattle.std.specs.Borrow.{Bor}
pub use Rattle.planus_read.specs.declared.slice_helpers.SliceWithStartOffset.{SliceWithStartOffset}
pub use Rattle.planus_read.specs.declared.table_reader.Table.{Table}
pub use Rattle.planus_read.specs.Bytes.{BytesStand}
pub use Rattle.planus_read.specs.Enums.{Numbered, variant_in, u8_enum, u16_enum, u32_enum}
pub use Rattle.planus_read.specs.Enums.{u64_enum, i8_enum, i16_enum, i32_enum, i64_enum}
pub use Rattle.planus_read.specs.Slices.{slice_bytes, slice_start}
pub use Rattle.planus_read.specs.Plain.{Shape, own_reading}
pub use Rattle.planus_read.specs.Shapes.{u8_shape, u16_shape, u32_shape, u64_shape, i8_shape}
pub use Rattle.planus_read.specs.Shapes.{i16_shape, i32_shape, i64_shape, bool_shape, f32_shape}
pub use Rattle.planus_read.specs.Shapes.{f64_shape, array_shape}
pub use Rattle.planus_read.specs.Clauses.{Clause}
pub use Rattle.planus_read.specs.lemmas.PartLaws.{joined, ended, nothing_more, both}
pub use Rattle.planus_read.specs.lemmas.PartLaws.{in_part, behind_part, passed_on}
pub use Rattle.planus_read.specs.SizePrefixed.{IsPrefixed}
pub use Rattle.planus_read.specs.Structs.{field, force_align, no_more, struct_layout, struct_shape}
pub use Rattle.planus_write.specs.Finishing.{FinishGives, SizedFinishGives, EndsAs, FinishLeaves}
pub use Rattle.planus_write.specs.Finishing.{SizedFinishLeaves}
pub use Rattle.planus_write.specs.InBuilder.{IsIn, AllIn, AllUnionsIn}
pub use Rattle.planus_write.specs.Preparing.{IsPrepared}
pub use Rattle.planus.specs.Accessors.{IsPlainVector, IsPlainVectorRequired, IsPlainRequired}
pub use Rattle.planus.specs.Accessors.{IsTextField, IsTextRequired, IsBytesField, IsBytesRequired}
pub use Rattle.planus.specs.Accessors.{IsTextVector, IsTextVectorRequired, IsTableField}
pub use Rattle.planus.specs.Accessors.{IsTableRequired, IsTableVector, IsTableVectorRequired}
pub use Rattle.planus.specs.Accessors.{plain_kind, text_kind, bytes_kind, table_kind}
pub use Rattle.planus.specs.ReadPlain.{IsPlainField, IsPlainFieldOr}
pub use Rattle.planus.specs.Roots.{IsRoot}
pub use Rattle.planus.specs.UnionAccessors.{IsUnionField, IsUnionRequired, IsUnionVector}
pub use Rattle.planus.specs.UnionAccessors.{IsUnionVectorRequired}
pub use Rattle.planus.specs.Unions.{ReadsVariants, UnionVariant, table_variant, text_variant}
pub use Rattle.planus.specs.Unions.{struct_variant}
pub use Rattle.planus.specs.UnionsBack.{ReturnsStruct, ReturnsRequiredStruct}
pub use Rattle.planus_view.specs.PlainRefs.{plain_slice}
pub use Rattle.planus.specs.FieldLines.{plains, judged, texts, tables}
pub use Rattle.planus.specs.FieldLines.FieldLine.{optional, required, plain_if, plain_or}
pub use Rattle.planus.specs.FieldLines.FieldLine.{number_or, signed_or, union, union_required}
pub use Rattle.planus.specs.FieldLines.FieldLine.{unions, unions_required}
pub use Rattle.planus.specs.SizedRoots.{IsSizedRoot}
pub use Rattle.planus.specs.Views.{gives_as}
