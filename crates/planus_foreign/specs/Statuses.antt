-- The numbers by which calls answer.
use Rattle.std.specs.Prelude.{ℕ}
use Rattle.planus_read.specs.declared.errors.ErrorKind.{ErrorKind}
use Rattle.planus_read.specs.declared.errors.ErrorKind.TheVariants as kind

-- there is a value
abbrev pub fine : ℕ
fine = 0

-- there is none
abbrev pub absent : ℕ
absent = 1

-- why a buffer isn't verified: tables lead to tables beyond the limit, or more are reached
abbrev pub too_deep : ℕ
too_deep = 11

abbrev pub too_many : ℕ
too_many = 12

-- why none is read
abbrev pub status_of : ErrorKind → ℕ
status_of kind.InvalidOffset = 2
status_of kind.InvalidLength = 3
status_of (kind.UnionVectorLengthsMismatched tags values) = 4
status_of (kind.UnknownEnumTag source) = 5
status_of (kind.UnknownUnionTag tag) = 6
status_of (kind.InvalidVtableLength length) = 7
status_of (kind.InvalidUtf8 source) = 8
status_of kind.MissingRequired = 9
status_of kind.MissingNullTerminator = 10
