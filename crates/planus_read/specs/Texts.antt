-- The strings that errors print.
use Rattle.std.specs.Prelude.{ℕ, ◌-◌, ◌^◌, List, [], ◌++◌, ◌==◌, false, codes, Option, Some, None}
use Rattle.std.specs.Prelude.{if◌then◌else◌}
use Rattle.std.specs.Fmt.{decimal, signed_decimal, digits}
use Rattle.std.specs.Str.{valid_up_to, error_len}
use Rattle.planus_read.specs.declared.errors.ErrorKind.{ErrorKind}
use Rattle.planus_read.specs.declared.errors.ErrorKind.TheVariants.{InvalidOffset, InvalidLength}
use Rattle.planus_read.specs.declared.errors.ErrorKind.TheVariants.{UnionVectorLengthsMismatched}
use Rattle.planus_read.specs.declared.errors.ErrorKind.TheVariants.{UnknownEnumTag as unknown}
use Rattle.planus_read.specs.declared.errors.ErrorKind.TheVariants.{UnknownUnionTag}
use Rattle.planus_read.specs.declared.errors.ErrorKind.TheVariants.{InvalidVtableLength}
use Rattle.planus_read.specs.declared.errors.ErrorKind.TheVariants.{InvalidUtf8, MissingRequired}
use Rattle.planus_read.specs.declared.errors.ErrorKind.TheVariants.{MissingNullTerminator}
use Rattle.planus_read.specs.declared.errors.UnknownEnumTagKind.{UnknownEnumTagKind}
use Rattle.planus_read.specs.declared.located.ErrorLocation.{ErrorLocation}
use Rattle.planus_read.specs.declared.located.Error.{Error}
use Rattle.planus_read.specs.declared.located.UnknownEnumTag.{UnknownEnumTag}

-- an unknown enum value
abbrev pub unknown_tag_text : UnknownEnumTagKind → List ℕ
unknown_tag_text kind = codes "Unknown enum (tag = " ++ signed_decimal kind.tag ++ codes ")"

-- by the numbers of valid bytes before it and of invalid ones, if any
abbrev pub utf8_text : ℕ → Option ℕ → List ℕ
utf8_text valid_len (Some fault_len) =
    codes "invalid utf-8 sequence of "
    ++ (decimal fault_len ++ (codes " bytes from index " ++ decimal valid_len))
utf8_text valid_len None = codes "incomplete utf-8 byte sequence from index " ++ decimal valid_len

-- a kind
abbrev pub kind_text : ErrorKind → List ℕ
kind_text InvalidOffset = codes "Invalid offset"
kind_text InvalidLength = codes "Invalid length"
kind_text (UnionVectorLengthsMismatched tags_len values_len) =
    codes "Mismatched lengths between tag and value vectors. Length of tags = "
    ++ (decimal tags_len ++ (codes ", length of values = " ++ decimal values_len))
kind_text (unknown source) = unknown_tag_text source
kind_text (UnknownUnionTag tag) = codes "Unknown union (tag = " ++ decimal tag ++ codes ")"
kind_text (InvalidVtableLength size) =
    codes "Invalid vtable length (length = " ++ decimal size ++ codes ")"
kind_text (InvalidUtf8 source) =
    codes "Invalid utf-8: " ++ utf8_text (valid_up_to source) (error_len source)
kind_text MissingRequired = codes "Missing required field"
kind_text MissingNullTerminator = codes "Missing null terminator"

-- where there is none: 2^64 - 1
abbrev pub no_offset : ℕ
no_offset = 2 ^ 64 - 1

-- the type, the offset in lower-case hexadecimal if there is one, the method
abbrev pub location_text : ErrorLocation → List ℕ
location_text location =
    codes "<" ++ location.type_.now
    ++ (if location.byte_offset == no_offset then []
    else codes "@" ++ digits 16 false location.byte_offset)
    ++ codes ">::" ++ location.method.now ++ codes "()"

abbrev pub located_text : ErrorLocation → List ℕ → List ℕ
located_text location kind = codes "In " ++ location_text location ++ codes ": " ++ kind

-- an error
abbrev pub error_text : Error → List ℕ
error_text e = located_text e.source_location (kind_text e.error_kind)

-- an unknown value, located
abbrev pub unknown_enum_tag_text : UnknownEnumTag → List ℕ
unknown_enum_tag_text e = located_text e.source_location (unknown_tag_text e.error_kind)
