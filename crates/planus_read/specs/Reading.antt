-- What is encoded at f of S, kind by kind.
use Rattle.std.specs.Prelude.{◌≡◌, ℕ, ◌+◌, ◌*◌, ◌%◌, ◌<◌, ◌≤◌, ◌≤ℤ◌, ◌-ℤ◌, ℤ, pos, unsigned_abs}
use Rattle.std.specs.Prelude.{List, [], ◌∷◌, length, take, drop, slice_index, Some, Bool, not, ◌==◌}
use Rattle.std.specs.Option.{option_map}
use Rattle.std.specs.Str.{IsUtf8}
use Rattle.std.specs.Int.{Width, w8, w16, w32, byte_len, from_le_bytes, cast_signed}
use Rattle.planus_read.specs.declared.errors.ErrorKind.TheVariants.{InvalidOffset, InvalidLength}
use Rattle.planus_read.specs.declared.errors.ErrorKind.TheVariants.{UnionVectorLengthsMismatched}
use Rattle.planus_read.specs.declared.errors.ErrorKind.TheVariants.{InvalidVtableLength}
use Rattle.planus_read.specs.declared.errors.ErrorKind.TheVariants.{MissingNullTerminator}
use Rattle.planus_read.specs.Bytes.{Num, Int}
use Rattle.planus_read.specs.Values.{text, byte_list}
use Rattle.planus_read.specs.Stands.{Stands, at}
use Rattle.planus_read.specs.Clauses.{Clause, clause, Reading}
use Rattle.planus_read.specs.Utf8.{utf8_clause}

abbrev pub number : List ℕ → ℕ → Width → ℕ
number S position width = from_le_bytes width (take (byte_len width) (drop position S))

abbrev pub number_clause : List ℕ → ℕ → Width → Clause
number_clause S position width = clause (position + byte_len width ≤ length S) InvalidOffset

abbrev pub number_clauses : List ℕ → ℕ → Width → List Clause
number_clauses S f width = number_clause S f width ∷ []

abbrev pub scalar_reading :
    {A : Type 0} → Width → (List ℕ → ℕ → A → Type 0) → List ℕ → ℕ → Reading A
scalar_reading width There S f = record { There = There S f; clauses = number_clauses S f width }

abbrev pub NumberThere : List ℕ → ℕ → Width → ℕ → Type 0
NumberThere S f width x = Num S f width ≡ Some x

-- a number's reading
abbrev pub number_reading : List ℕ → ℕ → Width → Reading ℕ
number_reading S f width = scalar_reading width (λ S f x. NumberThere S f width x) S f

-- a signed number
-- The format: signed numbers are two's complement.
abbrev pub SignedThere : List ℕ → ℕ → Width → ℤ → Type 0
SignedThere S f width x = option_map (cast_signed width) (Num S f width) ≡ Some x

-- a signed number's reading
abbrev pub signed_reading : List ℕ → ℕ → Width → Reading ℤ
signed_reading S f width = scalar_reading width (λ S f x. SignedThere S f width x) S f

-- a bool
-- The format: a bool is one byte, true where it isn't 0.
abbrev pub TruthThere : List ℕ → ℕ → Bool → Type 0
TruthThere S f x = option_map (λ n. not (n == 0)) (Num S f w8) ≡ Some x

-- a bool's reading
abbrev pub truth_reading : List ℕ → ℕ → Reading Bool
truth_reading S f = scalar_reading w8 TruthThere S f

-- The reference at f leads to the position.
abbrev pub Leads : List ℕ → ℕ → ℕ → Type 0
Leads S f position = (n : ℕ) × (Num S f w32 ≡ Some n) × (position ≡ f + n)

abbrev pub target : List ℕ → ℕ → ℕ
target S f = f + number S f w32

abbrev pub head_clauses : List ℕ → ℕ → List Clause → List Clause
head_clauses S f rest =
    number_clause S f w32 ∷ clause (target S f ≤ length S) InvalidOffset
    ∷ number_clause S (target S f) w32 ∷ rest

abbrev pub count_at : List ℕ → ℕ → ℕ
count_at S f = number S (target S f) w32

abbrev pub items_at : List ℕ → ℕ → ℕ
items_at S f = target S f + 4

pub record HeadThere (S : List ℕ) (f position count : ℕ) : Type 0 where
  pub begin : ℕ
  pub reference : Leads S f begin
  pub word : Num S begin w32 ≡ Some count
  pub behind : position ≡ begin + 4

pub record Items : Type 0 where
  pub position : ℕ
  pub count : ℕ

-- a head's reading
abbrev pub head_reading : List ℕ → ℕ → Reading Items
head_reading S f =
    record {
      There = λ items. HeadThere S f items.position items.count;
      clauses = head_clauses S f [];
    }

abbrev pub TextThere : List ℕ → ℕ → List ℕ → Type 0
TextThere S f content =
    (position : ℕ) × Leads S f position × Stands S (at position) (text content) × IsUtf8 content

abbrev pub ZeroByte : List ℕ → ℕ → ℕ → Type 0
ZeroByte S first count = (first + count < length S) × (slice_index S (first + count) ≡ 0)

abbrev pub text_clauses : List ℕ → ℕ → List Clause
text_clauses S f =
    head_clauses S f (clause (ZeroByte S (items_at S f) (count_at S f)) MissingNullTerminator
    ∷ utf8_clause (take (count_at S f) (drop (items_at S f) S)) ∷ [])

-- a string's reading
abbrev pub text_reading : List ℕ → ℕ → Reading (List ℕ)
text_reading S f = record { There = TextThere S f; clauses = text_clauses S f }

abbrev pub ByteListThere : List ℕ → ℕ → List ℕ → Type 0
ByteListThere S f content =
    (position : ℕ) × Leads S f position × Stands S (at position) (byte_list content)

abbrev pub byte_list_clauses : List ℕ → ℕ → List Clause
byte_list_clauses S f =
    head_clauses S f (clause (items_at S f + count_at S f ≤ length S) InvalidLength ∷ [])

-- a byte vector's reading
abbrev pub byte_list_reading : List ℕ → ℕ → Reading (List ℕ)
byte_list_reading S f = record { There = ByteListThere S f; clauses = byte_list_clauses S f }

pub record VectorThere (S : List ℕ) (f stride position count : ℕ) : Type 0 where
  pub head : HeadThere S f position count
  pub inside : position + count * stride ≤ length S

abbrev pub vector_clauses : List ℕ → ℕ → ℕ → List Clause
vector_clauses S f stride =
    head_clauses S f (clause (items_at S f + count_at S f * stride ≤ length S) InvalidLength ∷ [])

-- a vector's reading
abbrev pub vector_reading : List ℕ → ℕ → ℕ → Reading Items
vector_reading S f stride =
    record {
      There = λ items. VectorThere S f stride items.position items.count;
      clauses = vector_clauses S f stride;
    }

-- tags at f and references at g, of equal count
pub record UnionVectorThere (S : List ℕ) (f g tags references count : ℕ) : Type 0 where
  pub tags_there : VectorThere S f 1 tags count
  pub references_there : VectorThere S g 4 references count

-- both heads, that both vectors are in S, and equal counts
abbrev pub union_vector_clauses : List ℕ → ℕ → ℕ → List Clause
union_vector_clauses S f g =
    head_clauses S f (head_clauses S g
    (clause (items_at S f + count_at S f ≤ length S) InvalidLength
    ∷ clause (items_at S g + count_at S g * 4 ≤ length S) InvalidLength
    ∷ clause (count_at S f ≡ count_at S g)
    (UnionVectorLengthsMismatched (count_at S f) (count_at S g))
    ∷ []))

pub record UnionItems : Type 0 where
  pub tags : ℕ
  pub references : ℕ
  pub count : ℕ

-- a union vector's reading
abbrev pub union_vector_reading : List ℕ → ℕ → ℕ → Reading UnionItems
union_vector_reading S f g =
    record {
      There = λ items. UnionVectorThere S f g items.tags items.references items.count;
      clauses = union_vector_clauses S f g;
    }

-- an object, and its vtable of this size in bytes
pub record TableThere (S : List ℕ) (f object vtable size : ℕ) : Type 0 where
  pub reference : Leads S f object
  pub word : Int S object ≡ Some (pos object -ℤ pos vtable)
  pub size_word : Num S vtable w16 ≡ Some size
  pub least : 4 ≤ size
  pub even : size % 2 ≡ 0
  pub inside : vtable + size ≤ length S

abbrev pub signed_number : List ℕ → ℕ → ℤ
signed_number S position = cast_signed w32 (number S position w32)

-- an object's vtable
abbrev pub vtable_at : List ℕ → ℕ → ℕ
vtable_at S object = unsigned_abs (pos object -ℤ signed_number S object)

abbrev pub vtable_size_at : List ℕ → ℕ → ℕ
vtable_size_at S object = number S (vtable_at S object) w16

-- the vtable's bytes after the first four
abbrev pub slots_of : List ℕ → ℕ → List ℕ
slots_of S object = drop 4 (take (vtable_size_at S object) (drop (vtable_at S object) S))

-- the clauses of an object's first word
abbrev pub word_clauses : List ℕ → ℕ → List Clause → List Clause
word_clauses S object rest =
    number_clause S object w32 ∷ clause (signed_number S object ≤ℤ pos object) InvalidOffset ∷ rest

-- an object's clauses
abbrev pub object_clauses : List ℕ → ℕ → List Clause
object_clauses S object =
    word_clauses S object (number_clause S (vtable_at S object) w16
    ∷ clause ((4 ≤ vtable_size_at S object) × (vtable_size_at S object % 2 ≡ 0))
    (InvalidVtableLength (vtable_size_at S object))
    ∷ clause (vtable_at S object + vtable_size_at S object ≤ length S) InvalidLength
    ∷ [])

abbrev pub table_clauses : List ℕ → ℕ → List Clause
table_clauses S f =
    number_clause S f w32 ∷ clause (target S f ≤ length S) InvalidOffset
    ∷ object_clauses S (target S f)

-- the reference and all bytes of the value are in S
abbrev pub plain_ref_clauses : ℕ → List ℕ → ℕ → List Clause
plain_ref_clauses size S f =
    number_clause S f w32 ∷ clause (target S f + size ≤ length S) InvalidOffset ∷ []

-- the reading of a struct of this size that stands by itself
-- The format: a union's reference leads to the first byte of a struct, as to a table.
abbrev pub plain_ref_reading : ℕ → List ℕ → ℕ → Reading ℕ
plain_ref_reading size S f =
    record {
      There = λ position. Leads S f position × (position + size ≤ length S);
      clauses = plain_ref_clauses size S f;
    }

pub record TableLayout : Type 0 where
  pub object : ℕ
  pub vtable : ℕ
  pub size : ℕ

-- a table's reading
abbrev pub table_reading : List ℕ → ℕ → Reading TableLayout
table_reading S f =
    record {
      There = λ layout. TableThere S f layout.object layout.vtable layout.size;
      clauses = table_clauses S f;
    }
