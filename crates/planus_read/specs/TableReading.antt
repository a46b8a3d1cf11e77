-- What a reader returns for a written table.
use Rattle.std.specs.Prelude.{◌≡◌, ◌≢◌, ℕ, ◌+◌, ◌*◌, ◌≤◌, List, [], ◌∷◌, length, drop}
use Rattle.std.specs.Prelude.{Option, Some, None, Result, Ok, Err}
use Rattle.planus_read.specs.declared.errors.ErrorKind.{ErrorKind}
use Rattle.planus_read.specs.declared.table_reader.Table.{Table}
use Rattle.planus_read.specs.Values.{Plain, Field, plain, reference, tags, values}
use Rattle.planus_read.specs.Values.{field_at, slot_count}
use Rattle.planus_read.specs.Stands.{FieldStands, ReferenceStands}
use Rattle.planus_read.specs.Located.{Required}
use Rattle.planus_read.specs.Tables.{table_object, table_start, table_slots, slot_of}
use Rattle.planus_read.specs.Tables.{Reads, ReadsBoth}
use Rattle.planus_read.specs.Tables.{FieldAnswer, UnionAnswer, UnionVectorAnswer}

abbrev pub SlotReads : List ℕ → ℕ → ℕ → Option Field → Type 0
SlotReads B k q None = q ≡ 0
SlotReads B k q (Some field) = (4 ≤ q) × FieldStands B (k + q) field

pub record HasFields
    (B : List ℕ) (k : ℕ) (entries : List (ℕ × Field)) (table : Table) : Type 0 where
  pub object : table_object table ≡ drop k B
  pub begin : table_start table ≡ k
  pub inside : k + 4 ≤ length B
  pub slot_bytes : length (table_slots table) ≡ 2 * slot_count entries
  pub slots : (i : ℕ) → SlotReads B k (slot_of table i) (field_at entries i)

abbrev pub SomeOf :
    {T : Type 0} → (Result T ErrorKind → Type 0) → Result (Option T) ErrorKind → Type 0
SomeOf answers (Ok None) = ⊥
SomeOf answers (Ok (Some x)) = answers (Ok x)
SomeOf answers (Err e) = answers (Err e)

abbrev pub FieldRead :
    {T : Type 0} → Reads T → List ℕ → ℕ → Option Field → Result (Option T) ErrorKind → Type 0
FieldRead reads B k None r = r ≡ Ok None
FieldRead reads B k (Some field) r =
    (q : ℕ) × FieldStands B (k + q) field × SomeOf (reads (drop k B) k q) r

-- Every field is returned.
abbrev pub FieldsRead : {T : Type 0} → Reads T → Type 0
FieldsRead {T} reads =
    (B : List ℕ) (k : ℕ) (entries : List (ℕ × Field)) (table : Table) → HasFields B k entries table
    → (i : ℕ)
    → ((r : Result (Option T) ErrorKind) → FieldAnswer reads table i r
    → FieldRead reads B k (field_at entries i) r)
    × ((r : Result T ErrorKind) → Required (FieldAnswer reads table i) r
    → Required (FieldRead reads B k (field_at entries i)) r)

abbrev pub HoldUnion : List (ℕ × Field) → ℕ → Option (ℕ × ℕ) → Type 0
HoldUnion entries i None = (field_at entries i ≡ None) × (field_at entries (i + 1) ≡ None)
HoldUnion entries i (Some union) =
    (union.0 ≢ 0)
    × ((item : Plain) × (field_at entries i ≡ Some (plain item)) × (item.bytes ≡ union.0 ∷ []))
    × (field_at entries (i + 1) ≡ Some (reference union.1))

abbrev pub UnionRead :
    {T : Type 0} → ReadsBoth T → List ℕ → ℕ → Option (ℕ × ℕ) → Result (Option T) ErrorKind → Type 0
UnionRead reads B k None r = r ≡ Ok None
UnionRead reads B k (Some union) r =
    (q : ℕ) × ReferenceStands B (k + q) union.1 × SomeOf (reads (drop k B) k union.0 q) r

-- Every union is returned.
abbrev pub UnionsRead : {T : Type 0} → ReadsBoth T → Type 0
UnionsRead {T} reads =
    (B : List ℕ) (k : ℕ) (entries : List (ℕ × Field)) (table : Table) → HasFields B k entries table
    → (i : ℕ) (union : Option (ℕ × ℕ)) → HoldUnion entries i union
    → ((r : Result (Option T) ErrorKind) → UnionAnswer reads table i r
    → UnionRead reads B k union r)
    × ((r : Result T ErrorKind) → Required (UnionAnswer reads table i) r
    → Required (UnionRead reads B k union) r)

abbrev pub HoldUnionVector : List (ℕ × Field) → ℕ → Option (ℕ × ℕ) → Type 0
HoldUnionVector entries i None = (field_at entries i ≡ None) × (field_at entries (i + 1) ≡ None)
HoldUnionVector entries i (Some both) =
    (field_at entries i ≡ Some (tags both.0)) × (field_at entries (i + 1) ≡ Some (values both.1))

abbrev pub UnionVectorRead :
    {T : Type 0} → ReadsBoth T → List ℕ → ℕ → Option (ℕ × ℕ) → Result (Option T) ErrorKind → Type 0
UnionVectorRead reads B k None r = r ≡ Ok None
UnionVectorRead reads B k (Some both) r =
    (q : ℕ) × ReferenceStands B (k + q) both.0
    × ((p : ℕ) × ReferenceStands B (k + p) both.1 × SomeOf (reads (drop k B) k q p) r)

-- Every union vector is returned.
abbrev pub UnionVectorsRead : {T : Type 0} → ReadsBoth T → Type 0
UnionVectorsRead {T} reads =
    (B : List ℕ) (k : ℕ) (entries : List (ℕ × Field)) (table : Table) → HasFields B k entries table
    → (i : ℕ) (both : Option (ℕ × ℕ)) → HoldUnionVector entries i both
    → ((r : Result (Option T) ErrorKind) → UnionVectorAnswer reads table i r
    → UnionVectorRead reads B k both r)
    × ((r : Result T ErrorKind) → Required (UnionVectorAnswer reads table i) r
    → Required (UnionVectorRead reads B k both) r)
