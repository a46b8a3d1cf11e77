-- The events of values of a fixed size, one after another.
use Rattle.std.proofs.Common.{Ok, Err, Some, None, Option, true, false, Bool, ◌≡◌, ◌≢◌, ℕ, zero, suc, ◌+◌, ◌-◌, ◌*◌, ◌<◌, ◌≤◌, List, [], ◌∷◌, ◌++◌, length, drop, get_or, slice_get, refl, sym, ap, ◌∙◌, arith, inl, inr}
use Rattle.std.specs.Int.{Width, w8, w16, w32, w64, byte_len}
use Rattle.std.specs.String.{string_bytes}
use Rattle.std.specs.Prelude.{if◌then◌else◌, nat_le, min, ◌⊎◌}
use Rattle.std.proofs.lemmas.Bool.{leb-false}
use Rattle.std.proofs.lemmas.List.{drop_more}
use Rattle.planus_read.specs.Reading.{number}
use Rattle.planus_read.specs.declared.errors.ErrorKind.TheVariants.{InvalidOffset}
use Rattle.planus_dump.specs.declared.values.Leaf.TheVariants as leaf
use Rattle.planus_dump.specs.Answers.{SeenItems, vector_at, leaf_at}
use Rattle.planus_dump.specs.Tests.{fault_text, answered, number_test}
use Rattle.planus_dump.specs.Lines.{struct_line, list_line, item_path, field_path}
use Rattle.planus_dump.specs.Events.{line, fault_event, answer_event, float_event, deep, TableEvents, fixed_events, counted_events, struct_fields_events, struct_events, structs, fixed_size, values_events, fixed_list_events, greatest_nesting, number_width, named, names_in, enum_at, enum_events}
use Rattle.planus_dump.specs.declared.line.Bits.TheVariants as bits
use Rattle.planus_dump.specs.declared.schemas.Schema.{Schema}
use Rattle.planus_dump.specs.declared.schemas.EnumSchema.{EnumSchema}
use Rattle.planus_dump.specs.declared.schemas.StructSchema.{StructSchema}
use Rattle.planus_dump.specs.declared.schemas.StructFieldSchema.{StructFieldSchema}
use Rattle.planus_dump.specs.declared.schemas.Fixed.{Fixed}
use Rattle.planus_dump.specs.declared.schemas.Fixed.TheVariants as fixed
use Rattle.planus_dump.specs.declared.schemas.Number.{Number}
use Rattle.planus_dump.specs.declared.schemas.Number.TheVariants as numbers
use Rattle.planus_dump.proofs.Matching.{le_false}

pub structs-more : (schema : Schema) (left index : ℕ) (S : List ℕ) (f : ℕ) (path : List ℕ) → left ≢ 0
    → structs schema left index S f path ≡ struct_events schema (structs schema (left - 1)) (slice_get schema.structs.items index) S f path
unfolding structs
structs-more schema zero index S f path h = absurd (h refl)
structs-more schema (suc left) index S f path h = let e : suc left - 1 ≡ left = omega arith in ap (λ k. struct_events schema (structs schema k) (slice_get schema.structs.items index) S f path) (sym e)

pub structs-none : (schema : Schema) (left index : ℕ) (S : List ℕ) (f : ℕ) (path : List ℕ) → left ≡ 0 → structs schema left index S f path ≡ deep ∷ []
unfolding structs
structs-none schema zero index S f path h = refl
structs-none schema (suc left) index S f path h = absurd (omega (arith, h))

pub struct_fields-none : (schema : Schema) (T : TableEvents) (S path : List ℕ) (fields : List StructFieldSchema) (i : ℕ) → length fields ≤ i → struct_fields_events schema T (drop i fields) S path ≡ []
struct_fields-none schema T S path [] zero h = refl
struct_fields-none schema T S path [] (suc i) h = refl
struct_fields-none schema T S path (field ∷ fields) zero h = absurd (omega (arith, h))
struct_fields-none schema T S path (field ∷ fields) (suc i) h = struct_fields-none schema T S path fields i (omega (arith, h))

values-more : (schema : Schema) (T : TableEvents) (value : Fixed) (S : List ℕ) (f : ℕ) (path : List ℕ) (n i : ℕ) → 0 < n
    → values_events schema T value S f path n i ≡ fixed_events schema T value S (f + i * fixed_size schema value) (item_path path i) ++ values_events schema T value S f path (n - 1) (i + 1)
values-more schema T value S f path zero i h = absurd (omega (arith, h))
values-more schema T value S f path (suc n) i h =
    let e : suc n - 1 ≡ n = omega arith in ap (λ k. fixed_events schema T value S (f + i * fixed_size schema value) (item_path path i) ++ values_events schema T value S f path k (i + 1)) (sym e)

pub values-none : (schema : Schema) (T : TableEvents) (value : Fixed) (S : List ℕ) (f : ℕ) (path : List ℕ) (n i : ℕ) → n ≡ 0 → values_events schema T value S f path n i ≡ []
values-none schema T value S f path zero i h = refl
values-none schema T value S f path (suc n) i h = absurd (omega (arith, h))

pub struct_fields-split : (schema : Schema) (T : TableEvents) (S path : List ℕ) (fields : List StructFieldSchema) (i : ℕ) (field : StructFieldSchema) → i < length fields → field ≡ get_or fields i field
    → struct_fields_events schema T (drop i fields) S path
    ≡ counted_events schema T field.count field.fixed S field.distance (field_path path (string_bytes field.name)) ++ struct_fields_events schema T (drop (i + 1) fields) S path
struct_fields-split schema T S path fields i field h is =
    ap (λ xs. struct_fields_events schema T xs S path) (drop_more fields i field h)
    ∙ ap (λ (x : StructFieldSchema). counted_events schema T x.count x.fixed S x.distance (field_path path (string_bytes x.name)) ++ struct_fields_events schema T (drop (i + 1) fields) S path) (sym is)

pub values-split : (schema : Schema) (T : TableEvents) (value : Fixed) (S : List ℕ) (f : ℕ) (path : List ℕ) (n i : ℕ) → i < n
    → values_events schema T value S f path (n - i) i ≡ fixed_events schema T value S (f + i * fixed_size schema value) (item_path path i) ++ values_events schema T value S f path (n - (i + 1)) (i + 1)
values-split schema T value S f path n i h =
    let e : n - i - 1 ≡ n - (i + 1) = omega (arith, h) in let some : 0 < n - i = omega (arith, h) in
    values-more schema T value S f path (n - i) i some
    ∙ ap (λ k. fixed_events schema T value S (f + i * fixed_size schema value) (item_path path i) ++ values_events schema T value S f path k (i + 1)) e

pub struct-read : (schema : Schema) (T : TableEvents) (shape : StructSchema) (S slice : List ℕ) (f : ℕ) (path : List ℕ) → f + shape.size ≤ length S → slice ≡ drop f S
    → struct_events schema T (Some shape) S f path ≡ line (struct_line path (string_bytes shape.name)) ∷ struct_fields_events schema T shape.fields.items slice path
struct-read schema T shape S slice f path within is =
    by_test (nat_le (f + shape.size) (length S)) refl ∙ ap (λ bytes. line (struct_line path (string_bytes shape.name)) ∷ struct_fields_events schema T shape.fields.items bytes path) (sym is)
  where
    by_test : (b : Bool) → nat_le (f + shape.size) (length S) ≡ b
        → (if b then line (struct_line path (string_bytes shape.name)) ∷ struct_fields_events schema T shape.fields.items (drop f S) path else fault_event path (fault_text InvalidOffset) ∷ [])
        ≡ line (struct_line path (string_bytes shape.name)) ∷ struct_fields_events schema T shape.fields.items (drop f S) path
    by_test true e = refl
    by_test false e = absurd (omega (arith, within, leb-false (f + shape.size) (length S) e))

pub counted-at : (schema : Schema) (T : TableEvents) (count : Option ℕ) (value : Fixed) (S : List ℕ) (f : ℕ) (path at : List ℕ) → at ≡ path → counted_events schema T count value S f path ≡ counted_events schema T count value S f at
counted-at schema T count value S f path at along = sym (ap (counted_events schema T count value S f) along)

-- ---- past all bytes

module _ (S : List ℕ) (f : ℕ) (past : length S < f) where
  past_test : (size : ℕ) → nat_le (f + size) (length S) ≡ false
  past_test size = le_false (f + size) (length S) (omega (arith, past))

  unread : {A : Type 0} (w : Width) (x : A) → answered (number_test S f w ∷ []) x ≡ Err (fault_text InvalidOffset)
  unread w x = rw (past_test (byte_len w)) refl

  leaf_unread : (number : Number) → leaf_at (leaf.Number number) S f ≡ Err (fault_text InvalidOffset)
  leaf_unread numbers.U8 = unread w8 _
  leaf_unread numbers.U16 = unread w16 _
  leaf_unread numbers.U32 = unread w32 _
  leaf_unread numbers.U64 = unread w64 _
  leaf_unread numbers.I8 = unread w8 _
  leaf_unread numbers.I16 = unread w16 _
  leaf_unread numbers.I32 = unread w32 _
  leaf_unread numbers.I64 = unread w64 _

  enum_unread : (shape : EnumSchema) → enum_at shape S f ≡ Err (fault_text InvalidOffset)
  enum_unread shape = ap (λ a. named shape.flags a (names_in shape.flags (number S f (number_width shape.number)) shape.values.items)) (leaf_unread shape.number)

  struct_unread : (schema : Schema) (T : TableEvents) (shape : StructSchema) (path : List ℕ) → struct_events schema T (Some shape) S f path ≡ fault_event path (fault_text InvalidOffset) ∷ []
  struct_unread schema T shape path = rw (past_test shape.size) refl

-- Past all bytes, values are read alike at any two offsets.
module _ (S : List ℕ) (f g : ℕ) (here : length S < f) (there : length S < g) where
  past_answer : {A : Type 0} (w : Width) (x y : A) → answered (number_test S f w ∷ []) x ≡ answered (number_test S g w ∷ []) y
  past_answer w x y = unread S f here w x ∙ sym (unread S g there w y)

  past_enum : (o : Option EnumSchema) (path : List ℕ) → enum_events o S f path ≡ enum_events o S g path
  past_enum None path = refl
  past_enum (Some shape) path = ap (λ a. answer_event path a ∷ []) (enum_unread S f here shape ∙ sym (enum_unread S g there shape))

  past_struct : (schema : Schema) (T : TableEvents) (o : Option StructSchema) (path : List ℕ) → struct_events schema T o S f path ≡ struct_events schema T o S g path
  past_struct schema T None path = refl
  past_struct schema T (Some shape) path = struct_unread S f here schema T shape path ∙ sym (struct_unread S g there schema T shape path)

  past_structs : (schema : Schema) (left index : ℕ) (path : List ℕ) → structs schema left index S f path ≡ structs schema left index S g path
  unfolding structs
  past_structs schema zero index path = refl
  past_structs schema (suc left) index path = past_struct schema (structs schema left) (slice_get schema.structs.items index) path

  past_fixed : (schema : Schema) (left : ℕ) (value : Fixed) (path : List ℕ) → fixed_events schema (structs schema left) value S f path ≡ fixed_events schema (structs schema left) value S g path
  past_fixed schema left (fixed.Number number) path = ap (λ a. answer_event path a ∷ []) (leaf_unread S f here number ∙ sym (leaf_unread S g there number))
  past_fixed schema left fixed.Bool path = ap (λ a. answer_event path a ∷ []) (past_answer w8 _ _)
  past_fixed schema left fixed.F32 path = ap (λ a. float_event bits.F32 path a ∷ []) (past_answer w32 _ _)
  past_fixed schema left fixed.F64 path = ap (λ a. float_event bits.F64 path a ∷ []) (past_answer w64 _ _)
  past_fixed schema left (fixed.Enum index) path = past_enum (slice_get schema.enums.items index) path
  past_fixed schema left (fixed.Struct index) path = past_structs schema left index path

least-fixed : (schema : Schema) (left : ℕ) (value : Fixed) (S : List ℕ) (f m : ℕ) (path : List ℕ) → length S < m → fixed_events schema (structs schema left) value S f path ≡ fixed_events schema (structs schema left) value S (min f m) path
least-fixed schema left value S f m path short = by_case (below_or_past f m)
  where
    below_or_past : (f m : ℕ) → (min f m ≡ f) ⊎ (m ≤ f)
    below_or_past f m = grind arith

    by_case : (min f m ≡ f) ⊎ (m ≤ f) → fixed_events schema (structs schema left) value S f path ≡ fixed_events schema (structs schema left) value S (min f m) path
    by_case (inl same) = ap (λ n. fixed_events schema (structs schema left) value S n path) (sym same)
    by_case (inr past) = past_fixed S f (min f m) (omega (arith, short, past)) (omega (arith, short, past)) schema left value path

pub item-at : (schema : Schema) (left : ℕ) (value : Fixed) (S xs : List ℕ) (f i size m n : ℕ) (path at : List ℕ) → length S < m → xs ≡ S → n ≡ min (f + i * size) m → size ≡ fixed_size schema value → at ≡ path
    → fixed_events schema (structs schema left) value S (f + i * fixed_size schema value) path ≡ fixed_events schema (structs schema left) value xs n at
item-at schema left value S xs f i size m n path at short same here is along =
    least-fixed schema left value S (f + i * fixed_size schema value) m path short
    ∙ sym (ap (λ bytes. fixed_events schema (structs schema left) value bytes n at) same ∙ ap (λ k. fixed_events schema (structs schema left) value S k at) (here ∙ ap (λ k. min (f + i * k) m) is) ∙ ap (fixed_events schema (structs schema left) value S (min (f + i * fixed_size schema value) m)) along)

pub values-read : (schema : Schema) (value : Fixed) (S : List ℕ) (f size : ℕ) (path : List ℕ) (items : SeenItems) → Ok items ≡ vector_at size S f → size ≡ fixed_size schema value
    → fixed_list_events schema value path (vector_at (fixed_size schema value) S f) ≡ line (list_line path items.count) ∷ values_events schema (structs schema greatest_nesting) value items.bytes 0 path items.count 0
values-read schema value S f size path items read is = ap (fixed_list_events schema value path) (sym (read ∙ ap (λ n. vector_at n S f) is))
