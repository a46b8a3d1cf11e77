-- What a reader tests, in order: the clauses of `planus_read`.
use Rattle.std.specs.Prelude.{ℕ, ◌+◌, ◌*◌, ◌%◌, nat_lt, nat_le, ◌==◌, int_le, pos}
use Rattle.std.specs.Prelude.{List, [], ◌∷◌, length, take, drop, slice_index, codes}
use Rattle.std.specs.Prelude.{Bool, ◌&&◌, if◌then◌else◌, Result, Ok, Err}
use Rattle.std.specs.Int.{Width, w16, w32, byte_len}
use Rattle.std.specs.Str.{is_utf8}
use Rattle.planus_read.specs.declared.errors.ErrorKind.{ErrorKind}
use Rattle.planus_read.specs.declared.errors.ErrorKind.TheVariants.{InvalidOffset, InvalidLength}
use Rattle.planus_read.specs.declared.errors.ErrorKind.TheVariants.{UnionVectorLengthsMismatched}
use Rattle.planus_read.specs.declared.errors.ErrorKind.TheVariants.{InvalidVtableLength}
use Rattle.planus_read.specs.declared.errors.ErrorKind.TheVariants.{InvalidUtf8}
use Rattle.planus_read.specs.declared.errors.ErrorKind.TheVariants.{MissingNullTerminator}
use Rattle.planus_read.specs.Reading.{target, count_at, items_at, signed_number, vtable_at}
use Rattle.planus_read.specs.Reading.{vtable_size_at}
use Rattle.planus_read.specs.Texts.{kind_text}

-- For UTF-8 the words after the colon are left out.
abbrev pub fault_text : ErrorKind → List ℕ
fault_text (InvalidUtf8 source) = codes "Invalid utf-8"
fault_text kind = kind_text kind

pub record Test : Type 0 where
  pub passes : Bool
  pub fault : List ℕ

abbrev pub test : Bool → ErrorKind → Test
test passes kind = record { passes = passes; fault = fault_text kind }

-- the value, or the message of the first test that fails
abbrev pub answered : {A : Type 0} → List Test → A → Result A (List ℕ)
answered [] value = Ok value
answered (first ∷ rest) value = if first.passes then answered rest value else Err first.fault

abbrev pub number_test : List ℕ → ℕ → Width → Test
number_test S position width = test (nat_le (position + byte_len width) (length S)) InvalidOffset

abbrev pub head_tests : List ℕ → ℕ → List Test → List Test
head_tests S f rest =
    number_test S f w32 ∷ test (nat_le (target S f) (length S)) InvalidOffset
    ∷ number_test S (target S f) w32 ∷ rest

abbrev pub is_zero_byte : List ℕ → ℕ → Bool
is_zero_byte S position = nat_lt position (length S) && slice_index S position == 0

abbrev pub content_at : List ℕ → ℕ → List ℕ
content_at S f = take (count_at S f) (drop (items_at S f) S)

-- a zero byte follows, and the bytes are UTF-8
abbrev pub text_tests : List ℕ → ℕ → List Test
text_tests S f =
    head_tests S f (test (is_zero_byte S (items_at S f + count_at S f)) MissingNullTerminator
    ∷ record { passes = is_utf8 (content_at S f); fault = codes "Invalid utf-8" } ∷ [])

abbrev pub vector_tests : List ℕ → ℕ → ℕ → List Test
vector_tests S f stride =
    head_tests S f
    (test (nat_le (items_at S f + count_at S f * stride) (length S)) InvalidLength ∷ [])

abbrev pub byte_list_tests : List ℕ → ℕ → List Test
byte_list_tests S f =
    head_tests S f (test (nat_le (items_at S f + count_at S f) (length S)) InvalidLength ∷ [])

abbrev pub union_vector_tests : List ℕ → ℕ → ℕ → List Test
union_vector_tests S f g =
    head_tests S f (head_tests S g
    (test (nat_le (items_at S f + count_at S f) (length S)) InvalidLength
    ∷ test (nat_le (items_at S g + count_at S g * 4) (length S)) InvalidLength
    ∷ test (count_at S f == count_at S g)
    (UnionVectorLengthsMismatched (count_at S f) (count_at S g))
    ∷ []))

-- its word leads to a vtable in S, of an even size from 4 on
abbrev pub object_tests : List ℕ → ℕ → List Test
object_tests S object =
    number_test S object w32 ∷ test (int_le (signed_number S object) (pos object)) InvalidOffset
    ∷ number_test S (vtable_at S object) w16
    ∷ test (nat_le 4 (vtable_size_at S object) && vtable_size_at S object % 2 == 0)
    (InvalidVtableLength (vtable_size_at S object))
    ∷ test (nat_le (vtable_at S object + vtable_size_at S object) (length S)) InvalidLength ∷ []

abbrev pub table_tests : List ℕ → ℕ → List Test
table_tests S f =
    number_test S f w32 ∷ test (nat_le (target S f) (length S)) InvalidOffset
    ∷ object_tests S (target S f)
