-- What a sound schema is shown by is good.
use Rattle.std.proofs.Common.{◌≡◌, ℕ, zero, suc, ◌+◌, ◌<◌, ◌≤◌, ◌==◌, List, [], ◌∷◌, ◌++◌, length, map, refl, sym, ap, subst, ◌∙◌, arith, Bool, true, false, Some, None, Option, slice_get}
use Rattle.std.specs.Prelude.{nat_lt, nat_eq, not, ◌&&◌, ◌||◌, fold, if◌then◌else◌, nat_le, Vec}
use Rattle.std.specs.List.{AllByRecursion, list_all, list_any, IsDistinct}
use Rattle.std.specs.String.{string_bytes}
use Rattle.std.specs.declared.alloc.Global.{Global}
use Rattle.std.proofs.lemmas.List.{length-map}
use Rattle.std.proofs.lemmas.Bool.{lt-ltb}
use Rattle.std.proofs.lemmas.Bool.Decides.{nat_tests}
use Rattle.planus_schema.specs.declared.schema.Base.{Base}
use Rattle.planus_schema.specs.declared.schema.Base.TheVariants as base
use Rattle.planus_schema.specs.declared.schema.Body.{Body}
use Rattle.planus_schema.specs.declared.schema.Body.TheVariants as body
use Rattle.planus_schema.specs.declared.schema.Declared.{Declared}
use Rattle.planus_schema.specs.declared.schema.FieldType.{FieldType}
use Rattle.planus_schema.specs.declared.schema.Schema.{Schema}
use Rattle.planus_schema.specs.declared.schema.StructField.{StructField}
use Rattle.planus_schema.specs.declared.schema.TableField.{TableField}
use Rattle.planus_schema.specs.declared.schema.UnionMember.{UnionMember}
use Rattle.planus_schema.specs.declared.scalar.Scalar.{Scalar}
use Rattle.planus_schema.specs.declared.scalar.Scalar.TheVariants as scalar
use Rattle.planus_schema.specs.Layouts.{body_in}
use Rattle.planus_resolve.specs.Sound.{IsSound, AreSound, RefersBody, RefersMember, RefersField, RefersBefore, Refers, IsNested, IsTableAt, IsBelow}
use Rattle.planus_resolve.specs.Schemas.{IsBody}
use Rattle.planus_resolve.specs.Unions.{tag_in, is_tag}
use Rattle.planus_dump.specs.declared.schemas.Schema as dump
use Rattle.planus_dump.specs.declared.schemas.Kind.{Kind}
use Rattle.planus_dump.specs.declared.schemas.TableSchema.{TableSchema}
use Rattle.planus_dump.specs.declared.schemas.VariantSchema.{VariantSchema}
use Rattle.planus_dump.specs.declared.schemas.FieldSchema.{FieldSchema}
use Rattle.planus_dump.specs.declared.schemas.StructSchema.{StructSchema}
use Rattle.planus_dump.specs.declared.schemas.StructFieldSchema.{StructFieldSchema}
use Rattle.planus_dump.specs.Schemas.{is_name, is_name_byte, is_name_or_none, variant_kind_fits, variant_fits, kind_fits, field_fits, table_fits, variants_fit, union_fits, fixed_fits, fixed_kind_fits, fixed_kinds_fit, struct_field_fits, struct_fits, is_good}
use Rattle.planus_dump.specs.Shapes.{FieldShape, field_shape, TableShape, table_shape, StructFieldShape, struct_field_shape, StructShape, struct_shape, VariantShape, variant_shape, union_shape}
use Rattle.planus_inspect.specs.Shown.{shown_byte, after_dot, last_word, some_word, shown_name, scalar_fixed, scalar_kind, scalar_list, base_fixed, one_kind, list_kind, kind_of, field_shown, fields_shown, table_shown, member_kind, member_shown, union_shown, field_in_struct, struct_fields_shown, struct_shown, Shows}

both : (a b : Bool) → a ≡ true → b ≡ true → (a && b) ≡ true
both true true e f = refl
both true false e f = cc
both false b e f = cc

both_true : (a b : Bool) → (a && b) ≡ true → (a ≡ true) × (b ≡ true)
both_true true true e = (refl, refl)
both_true true false e = cc
both_true false b e = cc

all_of_map : {A C : Type 0} (f : A → C) (p : A → Bool) (Q : C → Type 0) → ((x : A) → Q (f x) → p x ≡ true) → (xs : List A) → AllByRecursion Q (map f xs) → list_all p xs ≡ true
all_of_map f p Q holds [] h = refl
all_of_map f p Q holds (x ∷ xs) h = both (p x) (list_all p xs) (holds x h.0) (all_of_map f p Q holds xs h.1)

all_mapped : {B C : Type 0} (g : B → C) (P : B → Type 0) (Q : C → Type 0) → ((d : B) → P d → Q (g d)) → (ds : List B) → AllByRecursion P ds → AllByRecursion Q (map g ds)
all_mapped g P Q holds [] h = tt
all_mapped g P Q holds (d ∷ ds) h = (holds d h.0, all_mapped g P Q holds ds h.1)

byte_is_named : (b : ℕ) → is_name_byte (shown_byte b) ≡ true
byte_is_named b = by_test (is_name_byte b) refl
  where
    by_test : (named : Bool) → is_name_byte b ≡ named → is_name_byte (if named then b else 95) ≡ true
    by_test true e = e
    by_test false e = refl

all_append : (p : ℕ → Bool) (xs ys : List ℕ) → list_all p xs ≡ true → list_all p ys ≡ true → list_all p (xs ++ ys) ≡ true
all_append p [] ys h k = k
all_append p (x ∷ xs) ys h k = let parts = both_true (p x) (list_all p xs) h in both (p x) (list_all p (xs ++ ys)) parts.0 (all_append p xs ys parts.1 k)

word_is_named : (name acc : List ℕ) → list_all is_name_byte acc ≡ true → list_all is_name_byte (fold after_dot acc name) ≡ true
word_is_named [] acc h = h
word_is_named (b ∷ name) acc h = word_is_named name (after_dot acc b) (by_test (b == 46))
  where
    one : list_all is_name_byte (shown_byte b ∷ []) ≡ true
    one = both (is_name_byte (shown_byte b)) true (byte_is_named b) refl

    by_test : (dot : Bool) → list_all is_name_byte (if dot then [] else acc ++ shown_byte b ∷ []) ≡ true
    by_test true = refl
    by_test false = all_append is_name_byte acc (shown_byte b ∷ []) h one

some_length : (n : ℕ) → not (suc n == 0) ≡ true
some_length n = grind (arith, nat_tests)

shown_is_name : (name : List ℕ) → is_name (shown_name name) ≡ true
shown_is_name name = by_word (last_word name) (word_is_named name [] refl)
  where
    by_word : (word : List ℕ) → list_all is_name_byte word ≡ true → is_name (some_word word) ≡ true
    by_word [] h = refl
    by_word (b ∷ bs) h = both (not (length (b ∷ bs) == 0)) (list_all is_name_byte (b ∷ bs)) (some_length (length bs)) h

below : {A : Type 0} (xs : List A) (i : ℕ) (x : A) → slice_get xs i ≡ Some x → i < length xs
below [] i x e = cc
below (y ∷ xs) zero x e = omega arith
below (y ∷ xs) (suc i) x e = let h = below xs i x e in omega (arith, h)

IsIndex : List Body → ℕ → Type 0
IsIndex bs n = (i : ℕ) (b : Body) → slice_get bs i ≡ Some b → nat_lt i n ≡ true

is_index : (bs : List Body) (n : ℕ) → length bs ≡ n → IsIndex bs n
unfolding IsIndex
is_index bs n e i b there = lt-ltb i n (subst (λ k. i < k) e (below bs i b there))

record KindFits (n : ℕ) (kind : Kind) : Type 0 where
  old : kind_fits n n kind ≡ true
  fixed : fixed_kind_fits n n kind ≡ true

scalar_kind_fits : (n : ℕ) (s : Scalar) → KindFits n (scalar_kind s)
scalar_kind_fits n scalar.Bool = record { old = refl; fixed = refl }
scalar_kind_fits n scalar.Byte = record { old = refl; fixed = refl }
scalar_kind_fits n scalar.UByte = record { old = refl; fixed = refl }
scalar_kind_fits n scalar.Short = record { old = refl; fixed = refl }
scalar_kind_fits n scalar.UShort = record { old = refl; fixed = refl }
scalar_kind_fits n scalar.Int = record { old = refl; fixed = refl }
scalar_kind_fits n scalar.UInt = record { old = refl; fixed = refl }
scalar_kind_fits n scalar.Long = record { old = refl; fixed = refl }
scalar_kind_fits n scalar.ULong = record { old = refl; fixed = refl }
scalar_kind_fits n scalar.Float = record { old = refl; fixed = refl }
scalar_kind_fits n scalar.Double = record { old = refl; fixed = refl }

scalar_list_fits : (n : ℕ) (s : Scalar) → KindFits n (scalar_list s)
scalar_list_fits n scalar.Bool = record { old = refl; fixed = refl }
scalar_list_fits n scalar.Byte = record { old = refl; fixed = refl }
scalar_list_fits n scalar.UByte = record { old = refl; fixed = refl }
scalar_list_fits n scalar.Short = record { old = refl; fixed = refl }
scalar_list_fits n scalar.UShort = record { old = refl; fixed = refl }
scalar_list_fits n scalar.Int = record { old = refl; fixed = refl }
scalar_list_fits n scalar.UInt = record { old = refl; fixed = refl }
scalar_list_fits n scalar.Long = record { old = refl; fixed = refl }
scalar_list_fits n scalar.ULong = record { old = refl; fixed = refl }
scalar_list_fits n scalar.Float = record { old = refl; fixed = refl }
scalar_list_fits n scalar.Double = record { old = refl; fixed = refl }

scalar_fixed_fits : (n : ℕ) (s : Scalar) → fixed_fits n n (scalar_fixed s) ≡ true
scalar_fixed_fits n scalar.Bool = refl
scalar_fixed_fits n scalar.Byte = refl
scalar_fixed_fits n scalar.UByte = refl
scalar_fixed_fits n scalar.Short = refl
scalar_fixed_fits n scalar.UShort = refl
scalar_fixed_fits n scalar.Int = refl
scalar_fixed_fits n scalar.UInt = refl
scalar_fixed_fits n scalar.Long = refl
scalar_fixed_fits n scalar.ULong = refl
scalar_fixed_fits n scalar.Float = refl
scalar_fixed_fits n scalar.Double = refl

one_kind_fits : (bs : List Body) (n : ℕ) → IsIndex bs n → (b : Base) → Refers bs b → KindFits n (one_kind b)
unfolding IsIndex
one_kind_fits bs n index (base.Scalar s) h = scalar_kind_fits n s
one_kind_fits bs n index base.Text h = record { old = refl; fixed = refl }
one_kind_fits bs n index (base.Enum i) (e, is) = record { old = refl; fixed = index i (body.Enum e) is }
one_kind_fits bs n index (base.Struct i) (s, is) = record { old = refl; fixed = index i (body.Struct s) is }
one_kind_fits bs n index (base.Table i) (t, is) = record { old = index i (body.Table t) is; fixed = refl }
one_kind_fits bs n index (base.Union i) (u, is) = record { old = index i (body.Union u) is; fixed = refl }

list_kind_fits : (bs : List Body) (n : ℕ) → IsIndex bs n → (b : Base) → Refers bs b → KindFits n (list_kind b)
unfolding IsIndex
list_kind_fits bs n index (base.Scalar s) h = scalar_list_fits n s
list_kind_fits bs n index base.Text h = record { old = refl; fixed = refl }
list_kind_fits bs n index (base.Enum i) (e, is) = record { old = refl; fixed = index i (body.Enum e) is }
list_kind_fits bs n index (base.Struct i) (s, is) = record { old = refl; fixed = index i (body.Struct s) is }
list_kind_fits bs n index (base.Table i) (t, is) = record { old = index i (body.Table t) is; fixed = refl }
list_kind_fits bs n index (base.Union i) (u, is) = record { old = index i (body.Union u) is; fixed = refl }

kind_of_fits : (bs : List Body) (n : ℕ) → IsIndex bs n → (t : FieldType) (nested : Option ℕ) → Refers bs t.base → IsNested bs nested → KindFits n (kind_of t nested)
unfolding IsIndex
kind_of_fits bs n index t (Some i) h (table, is) = record { old = index i (body.Table table) is; fixed = refl }
kind_of_fits bs n index t None h nested = by_test t.vector
  where
    by_test : (vector : Bool) → KindFits n (if vector then list_kind t.base else one_kind t.base)
    by_test true = list_kind_fits bs n index t.base h
    by_test false = one_kind_fits bs n index t.base h

base_fixed_fits : (n j : ℕ) (b : Base) → j < n → IsBelow j b → fixed_fits n n (base_fixed b) ≡ true
base_fixed_fits n j (base.Scalar s) inside h = scalar_fixed_fits n s
base_fixed_fits n j base.Text inside h = absurd h
base_fixed_fits n j (base.Enum i) inside h = lt-ltb i n (omega (arith, inside, h))
base_fixed_fits n j (base.Struct i) inside h = lt-ltb i n (omega (arith, inside, h))
base_fixed_fits n j (base.Table i) inside h = absurd h
base_fixed_fits n j (base.Union i) inside h = absurd h

-- a declaration is sound, and refers to those before n
record Refers1 (bs : List Body) (n : ℕ) (d : Declared) : Type 0 where
  at : ℕ
  inside : at < n
  sound : IsBody d.body
  refers : RefersBody bs at d.body

each_refers : (bs : List Body) (n k : ℕ) (ds : List Declared) → k + length ds ≤ n → AreSound bs k (map body_in ds) → AllByRecursion (Refers1 bs n) ds
each_refers bs n k [] h s = tt
each_refers bs n k (d ∷ ds) h s = (record { at = k; inside = omega (arith, h); sound = s.0; refers = s.1 }, each_refers bs n (k + 1) ds (omega (arith, h)) s.2)

record FieldFits (n : ℕ) (f : FieldShape) : Type 0 where
  name : is_name f.name ≡ true
  kind : KindFits n f.kind

record TableFits (n : ℕ) (t : TableShape) : Type 0 where
  name : is_name t.name ≡ true
  fields : AllByRecursion (FieldFits n) t.fields

fields_fit : (bs : List Body) (n : ℕ) → IsIndex bs n → (d : Declared) → Refers1 bs n d → AllByRecursion (FieldFits n) (fields_shown d.body)
fields_fit bs n index d h = by_body d.body h.refers
  where
    field : (f : TableField) → RefersField bs f → FieldFits n (field_shown f)
    field f h = record { name = shown_is_name f.name.items; kind = kind_of_fits bs n index f.kind f.nested h.kind h.nested }

    by_body : (b : Body) → RefersBody bs h.at b → AllByRecursion (FieldFits n) (fields_shown b)
    by_body (body.Table t) r = all_mapped field_shown (RefersField bs) (FieldFits n) field t.fields.items r
    by_body (body.Struct s) r = tt
    by_body (body.Enum e) r = tt
    by_body (body.Union u) r = tt

table_is_fit : (bs : List Body) (n : ℕ) → IsIndex bs n → (d : Declared) → Refers1 bs n d → TableFits n (table_shown d)
table_is_fit bs n index d h = record { name = shown_is_name d.name.items; fields = fields_fit bs n index d h }

field_passes : (n : ℕ) (f : FieldSchema) → FieldFits n (field_shape f) → field_fits n n f ≡ true
field_passes n f h = both (is_name (string_bytes f.name)) (kind_fits n n f.kind) h.name h.kind.old

table_passes : (n : ℕ) (t : TableSchema) → TableFits n (table_shape t) → table_fits n n t ≡ true
table_passes n t h =
    both (is_name (string_bytes t.name)) (list_all (field_fits n n) t.fields.items) h.name (all_of_map field_shape (field_fits n n) (FieldFits n) (field_passes n) t.fields.items h.fields)

kinds_pass : (n : ℕ) (t : TableSchema) → TableFits n (table_shape t) → fixed_kinds_fit n n t ≡ true
kinds_pass n t h = all_of_map field_shape (λ (f : FieldSchema). fixed_kind_fits n n f.kind) (FieldFits n) (λ f h. h.kind.fixed) t.fields.items h.fields

record StructFieldFits (n : ℕ) (f : StructFieldShape) : Type 0 where
  name : is_name f.name ≡ true
  value : fixed_fits n n f.fixed ≡ true

record StructFits (n : ℕ) (s : StructShape) : Type 0 where
  name : is_name s.name ≡ true
  fields : AllByRecursion (StructFieldFits n) s.fields

struct_is_fit : (bs : List Body) (n : ℕ) (d : Declared) → Refers1 bs n d → StructFits n (struct_shown d)
struct_is_fit bs n d h = record { name = shown_is_name d.name.items; fields = by_body d.body h.refers }
  where
    field : (f : StructField) → RefersBefore bs h.at f → StructFieldFits n (field_in_struct f)
    field f r = record { name = shown_is_name f.name.items; value = base_fixed_fits n h.at f.base h.inside r.below }

    by_body : (b : Body) → RefersBody bs h.at b → AllByRecursion (StructFieldFits n) (struct_fields_shown b)
    by_body (body.Table t) r = tt
    by_body (body.Struct s) r = all_mapped field_in_struct (RefersBefore bs h.at) (StructFieldFits n) field s.fields.items r
    by_body (body.Enum e) r = tt
    by_body (body.Union u) r = tt

struct_field_passes : (n : ℕ) (f : StructFieldSchema) → StructFieldFits n (struct_field_shape f) → struct_field_fits n n f ≡ true
struct_field_passes n f h = both (is_name (string_bytes f.name)) (fixed_fits n n f.fixed) h.name h.value

struct_passes : (n : ℕ) (s : StructSchema) → StructFits n (struct_shape s) → struct_fits n n s ≡ true
struct_passes n s h =
    both (is_name (string_bytes s.name)) (list_all (struct_field_fits n n) s.fields.items) h.name
    (all_of_map struct_field_shape (struct_field_fits n n) (StructFieldFits n) (struct_field_passes n) s.fields.items h.fields)

other_tag : (t u : ℕ) → nat_eq t u ≡ false → (u == t) ≡ false
other_tag t u h = grind (arith, nat_tests, h)

some_tag : (t : ℕ) → is_tag t ≡ true → not (t == 0) ≡ true
some_tag t h = let least = (both_true (nat_le 1 t) (nat_le t 255) h).0 in by_test (t == 0) refl least
  where
    by_test : (zero_tag : Bool) → (t == 0) ≡ zero_tag → nat_le 1 t ≡ true → not zero_tag ≡ true
    by_test true e least = absurd (grind (arith, nat_tests, e, least))
    by_test false e least = refl

none_alike : (t : ℕ) (ms : List UnionMember) → AllByRecursion (λ u. nat_eq t u ≡ false) (map tag_in ms) → not (list_any (λ (other : VariantShape). other.tag == t) (map member_shown ms)) ≡ true
none_alike t [] h = refl
none_alike t (m ∷ ms) h = rw (other_tag t m.tag h.0) (none_alike t ms h.1)

-- the variants of a union, by their shapes
abbrev variant_is_fit : ℕ → VariantShape → List VariantShape → Bool
variant_is_fit n variant others = not (variant.tag == 0) && variant_kind_fits n n variant.kind && not (list_any (λ other. other.tag == variant.tag) others) && is_name_or_none variant.name

abbrev variants_are_fit : ℕ → List VariantShape → Bool
variants_are_fit n [] = true
variants_are_fit n (variant ∷ rest) = variant_is_fit n variant rest && variants_are_fit n rest

member_fits : (bs : List Body) (n : ℕ) → IsIndex bs n → (b : Base) → RefersMember bs b → variant_kind_fits n n (member_kind b) ≡ true
unfolding IsIndex
member_fits bs n index (base.Scalar x) h = refl
member_fits bs n index base.Text h = refl
member_fits bs n index (base.Enum i) h = refl
member_fits bs n index (base.Struct i) h = index i (body.Struct h.1.0) h.1.1
member_fits bs n index (base.Table i) h = index i (body.Table h.1.0) h.1.1
member_fits bs n index (base.Union i) h = refl

members_fit : (bs : List Body) (n : ℕ) → IsIndex bs n → (ms : List UnionMember) → list_all is_tag (map tag_in ms) ≡ true → IsDistinct nat_eq (map tag_in ms)
    → AllByRecursion (λ m. RefersMember bs m.base) ms → variants_are_fit n (map member_shown ms) ≡ true
unfolding IsIndex IsDistinct
members_fit bs n index [] tags distinct tables = refl
members_fit bs n index (m ∷ ms) tags distinct tables =
    let tag = both_true (is_tag m.tag) (list_all is_tag (map tag_in ms)) tags in
    let inside : variant_kind_fits n n (member_kind m.base) ≡ true = member_fits bs n index m.base tables.0 in
    let rest = members_fit bs n index ms tag.1 distinct.1 tables.1 in
    let alone = none_alike m.tag ms distinct.0 in
    let first = some_tag m.tag tag.0 in
    let others = list_any (λ (other : VariantShape). other.tag == m.tag) (map member_shown ms) in
    both (variant_is_fit n (member_shown m) (map member_shown ms)) (variants_are_fit n (map member_shown ms))
    (both (not (m.tag == 0) && variant_kind_fits n n (member_kind m.base) && not others) (is_name_or_none (shown_name m.name.items))
    (both (not (m.tag == 0) && variant_kind_fits n n (member_kind m.base)) (not others) (both (not (m.tag == 0)) (variant_kind_fits n n (member_kind m.base)) first inside) alone) (some_name (shown_name m.name.items) (shown_is_name m.name.items))) rest
  where
    some_name : (name : List ℕ) → is_name name ≡ true → is_name_or_none name ≡ true
    some_name name h = by_test (length name == 0)
      where
        by_test : (none : Bool) → (none || is_name name) ≡ true
        by_test true = refl
        by_test false = h

union_is_fit : (bs : List Body) (n : ℕ) → IsIndex bs n → (d : Declared) → Refers1 bs n d → variants_are_fit n (union_shown d) ≡ true
union_is_fit bs n index d h = by_body d.body h.sound h.refers
  where
    by_body : (b : Body) → IsBody b → RefersBody bs h.at b → variants_are_fit n (union_shown (record d { body = b })) ≡ true
    by_body (body.Table t) s r = refl
    by_body (body.Struct x) s r = refl
    by_body (body.Enum e) s r = refl
    by_body (body.Union u) s r = members_fit bs n index u.members.items s.tags s.distinct r

any_mapped : (t : ℕ) (variants : List VariantSchema) → list_any (λ (other : VariantShape). other.tag == t) (map variant_shape variants) ≡ list_any (λ (other : VariantSchema). other.tag == t) variants
any_mapped t [] = refl
any_mapped t (variant ∷ rest) = ap (λ any. (variant.tag == t) || any) (any_mapped t rest)

variants_pass : (n : ℕ) (variants : List VariantSchema) → variants_are_fit n (map variant_shape variants) ≡ variants_fit n n variants
variants_pass n [] = refl
variants_pass n (variant ∷ rest) =
    ap (λ any. (not (variant.tag == 0) && variant_kind_fits n n variant.kind && not any && is_name_or_none (string_bytes variant.name)) && variants_are_fit n (map variant_shape rest)) (any_mapped variant.tag rest)
    ∙ ap (λ fit. variant_fits n n variant rest && fit) (variants_pass n rest)

union_passes : (n : ℕ) (v : Vec VariantSchema Global) → variants_are_fit n (union_shape v) ≡ true → union_fits n n v ≡ true
union_passes n v h = sym (variants_pass n v.items) ∙ h

same_length : {A B C : Type 0} (f : A → C) (g : B → C) (xs : List A) (ys : List B) → map f xs ≡ map g ys → length xs ≡ length ys
same_length f g xs ys e = sym (length-map xs f) ∙ ap length e ∙ length-map ys g

pub sound_is_good : (schema : Schema) (root : ℕ) (shown : dump.Schema) → Shows schema root shown → IsSound schema → IsTableAt (map body_in schema.declarations.items) root → is_good shown ≡ true
unfolding IsIndex
sound_is_good schema root shown h sound (table, there) =
    let ds = schema.declarations.items in
    let bs = map body_in ds in
    let n = length ds in
    let index : IsIndex bs n = is_index bs n (length-map ds body_in) in
    let each : AllByRecursion (Refers1 bs n) ds = each_refers bs n 0 ds (omega arith) sound.bodies in
    let tables : length shown.tables.items ≡ n = same_length _ _ _ _ h.tables_are in
    let unions : length shown.unions.items ≡ n = same_length _ _ _ _ h.unions_are in
    let enums : length shown.enums.items ≡ n = same_length _ _ _ _ h.enums_are in
    let structs : length shown.structs.items ≡ n = same_length _ _ _ _ h.structs_are in
    let table_shapes : AllByRecursion (TableFits n) (map table_shape shown.tables.items)
    = subst (AllByRecursion (TableFits n)) (sym h.tables_are) (all_mapped table_shown (Refers1 bs n) (TableFits n) (table_is_fit bs n index) ds each) in
    let union_shapes : AllByRecursion (λ v. variants_are_fit n v ≡ true) (map union_shape shown.unions.items)
    = subst (AllByRecursion (λ v. variants_are_fit n v ≡ true)) (sym h.unions_are) (all_mapped union_shown (Refers1 bs n) (λ v. variants_are_fit n v ≡ true) (union_is_fit bs n index) ds each) in
    let struct_shapes : AllByRecursion (StructFits n) (map struct_shape shown.structs.items)
    = subst (AllByRecursion (StructFits n)) (sym h.structs_are) (all_mapped struct_shown (Refers1 bs n) (StructFits n) (struct_is_fit bs n) ds each) in
    let root_fits : nat_lt shown.root n ≡ true = subst (λ i. nat_lt i n ≡ true) (sym h.root_is) (index root (body.Table table) there) in
    let tables_fit : list_all (table_fits n n) shown.tables.items ≡ true = all_of_map table_shape (table_fits n n) (TableFits n) (table_passes n) shown.tables.items table_shapes in
    let unions_fit : list_all (union_fits n n) shown.unions.items ≡ true = all_of_map union_shape (union_fits n n) (λ v. variants_are_fit n v ≡ true) (union_passes n) shown.unions.items union_shapes in
    let kinds_fit : list_all (fixed_kinds_fit n n) shown.tables.items ≡ true = all_of_map table_shape (fixed_kinds_fit n n) (TableFits n) (kinds_pass n) shown.tables.items table_shapes in
    let structs_fit : list_all (struct_fits n n) shown.structs.items ≡ true = all_of_map struct_shape (struct_fits n n) (StructFits n) (struct_passes n) shown.structs.items struct_shapes in
    rw (tables, unions, enums, structs, root_fits, tables_fit, unions_fit, kinds_fit, structs_fit) refl
