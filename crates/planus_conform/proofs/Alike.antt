-- Where nothing breaks, all calls return the same.
use Rattle.std.proofs.Common.{◌≡◌, ℕ, zero, suc, ◌+◌, ◌-◌, ◌*◌, Bool, true, false, List, [], ◌∷◌, ◌++◌, length, take, drop, refl, sym, ap, subst, ◌∙◌, Option, Some, None, slice_get, ◌⊎◌, inl, inr, arith}
use Rattle.std.specs.Prelude.{◌==◌, ◌&&◌, ◌||◌, not, if◌then◌else◌, nat_lt, nat_le, slice_index, Result, Ok, Err, Vec}
use Rattle.std.specs.List.{list_all}
use Rattle.std.specs.Str.{bytes_eq}
use Rattle.std.specs.declared.alloc.Global.{Global}
use Rattle.std.proofs.lemmas.Bool.{eqb-true, eq-eqb}
use Rattle.planus_read.specs.Tables.{Slot}
use Rattle.planus_read.specs.declared.errors.ErrorKind.TheVariants.{InvalidOffset}
use Rattle.std.specs.Int.{w32}
use Rattle.planus_dump.specs.Answers.{Seen, SeenItems, SeenUnion, SeenUnions, table_at, vector_at, bits_at, union_at, unions_at}
use Rattle.planus_dump.specs.Tests.{fault_text, answered, byte_list_tests, content_at}
use Rattle.planus_inspect.specs.Shown.{bits_of}
use Rattle.planus_schema.specs.declared.scalar.Scalar.{Scalar}
use Rattle.planus_schema.specs.declared.scalar.Scalar.TheVariants as scalar
use Rattle.planus_schema.specs.declared.schema.Base.{Base}
use Rattle.planus_schema.specs.declared.schema.Base.TheVariants as base
use Rattle.planus_schema.specs.declared.schema.Body.{Body}
use Rattle.planus_schema.specs.declared.schema.Body.TheVariants as body
use Rattle.planus_schema.specs.declared.schema.Declared.{Declared}
use Rattle.planus_schema.specs.declared.schema.Enum.{Enum}
use Rattle.planus_schema.specs.declared.schema.EnumValue.{EnumValue}
use Rattle.planus_schema.specs.declared.schema.FieldType.{FieldType}
use Rattle.planus_schema.specs.declared.schema.Schema.{Schema}
use Rattle.planus_schema.specs.declared.schema.Struct.{Struct}
use Rattle.planus_schema.specs.declared.schema.StructField.{StructField}
use Rattle.planus_schema.specs.declared.schema.TableField.{TableField}
use Rattle.planus_schema.specs.declared.schema.Union.{Union}
use Rattle.planus_schema.specs.declared.schema.UnionMember.{UnionMember}
use Rattle.planus_schema.specs.Numbers.{scalar_size}
use Rattle.planus_conform.specs.Floats.{DefaultV}
use Rattle.planus_conform.specs.declared.breaks.Break.{Break}
use Rattle.planus_conform.specs.declared.breaks.Change.TheVariants as change
use Rattle.planus_conform.specs.declared.breaks.Place.TheVariants as place
use Rattle.planus_conform.specs.declared.breaks.Way.{Way}
use Rattle.planus_conform.specs.declared.breaks.Way.TheVariants as way
use Rattle.planus_conform.specs.Found.{Call, field, part, item, buffer, Found, unknown, withdrawn, unopened, absent, missing, default, shown, bits, known, stranger, fault, table, structure, member, items, unions}
use Rattle.planus_conform.specs.Values.{body_of, body_at, fields_in, struct_in, enum_in, union_in, said, said_bits, scalar_found, table_found, bytes_found, struct_found, width_of, is_value, is_known, number_found, enum_found, member_in, led_found, member_found, tagged_found, union_found, value_found, items_found, enum_size, struct_size, stride, sized_list, enum_list, struct_list, list_found}
use Rattle.planus_conform.specs.Reads.{absent_found, is_nothing, given, default_found, default_of, field_in, present_found, placed_found, one_union_found, unions_found, union_field_found, found_by, field_found, found_if, inner_root, inner_found, buffer_found, buffer_if, part_in, parts_of, counted_found, part_found, item_found, union_item_found, table_called, struct_called, items_called, unions_called, called, root, root_found}
use Rattle.planus_conform.specs.Matching.{match_at, Matches}
use Rattle.planus_conform.specs.Alike.{Same, is_left_out, is_missing, is_withdrawn, is_unopened, is_number_read, is_newer, is_given_up, is_excused, is_excused_within, SameAnswers, ReadAlike, is_identified, PassAlike}
use Rattle.planus_conform.specs.Types.{scalar_code, are_matched, same_base, same_count, same_part, same_truth, same_type}
use Rattle.planus_conform.specs.Defaults.{same_number, same_given, same_default}
use Rattle.planus_conform.specs.Breaks.{meets_old, meets_new, noted, change_if, is_moved, may_require, same_nested, kept_change, change_from, field_change, field_breaks, is_part_moved, part_change_to, part_change, part_breaks, struct_breaks, has_number, is_value_moved, value_change, value_breaks, added_values, enum_change, enum_breaks, is_member_moved, member_change_to, member_change, member_breaks, is_member, added_members, union_breaks, breaks_to, body_breaks, body_if, declared_breaks, breaks_from, root_change, identifier_change, breaks_by}
use Rattle.planus_conform.specs.Conforms.{names_stay, ConformBy}
use Rattle.planus_conform.proofs.Parts.{both_true, both_nothing, noted_none, is_index_some, same_truths, same_counts, same_givens, same_scalars, same_bytes, same_numbers, no_change, no_enum_change, none_if, none_if_not, and_true, or_right, or_left, true_or_false}

module _ (w : Way) (m : List (Option ℕ)) (old new : List Declared) where
  abbrev SimTable : ℕ → Seen → Found → Type 0
  SimTable i s (table j t) = (s ≡ t) × Matches m i j
  SimTable i s found = ⊥

  abbrev SimStruct : ℕ → List ℕ → Found → Type 0
  SimStruct i s (structure j t) = (s ≡ t) × Matches m i j
  SimStruct i s found = ⊥

  abbrev SimItems : Base → SeenItems → Found → Type 0
  SimItems b s (items c t) = (s ≡ t) × (same_base m b c ≡ true)
  SimItems b s found = ⊥

  abbrev SimUnions : ℕ → SeenUnions → Found → Type 0
  SimUnions i s (unions j t) = (s ≡ t) × Matches m i j
  SimUnions i s found = ⊥

  -- the same answer, and what is called next is of parts that match
  abbrev Sim : Found → Found → Type 0
  Sim unknown g = Unit {0}
  Sim withdrawn g = Unit {0}
  Sim unopened g = Unit {0}
  Sim absent g = absent ≡ g
  Sim missing g = missing ≡ g
  Sim (default v) g = default v ≡ g
  Sim (shown x) g = shown x ≡ g
  Sim (bits n) g = bits n ≡ g
  Sim (known n) g = known n ≡ g
  Sim (stranger n) g = stranger n ≡ g
  Sim (fault x) g = fault x ≡ g
  Sim (table i s) g = SimTable i s g
  Sim (structure i s) g = SimStruct i s g
  Sim (member n x) (member k y) = (n ≡ k) × Sim x y
  Sim (member n x) g = ⊥
  Sim (items b s) g = SimItems b s g
  Sim (unions i s) g = SimUnions i s g

  -- or an error that the way excuses
  abbrev Near : Found → Found → Type 0
  Near f g = (is_excused w f g ≡ true) ⊎ Sim f g

  sim_same : (f g : Found) → Sim f g → Same f g
  sim_same unknown g s = tt
  sim_same withdrawn g s = tt
  sim_same unopened g s = tt
  sim_same (table i x) (table j y) s = s.0
  sim_same (table i x) g s = absurd s
  sim_same (structure i x) (structure j y) s = s.0
  sim_same (structure i x) g s = absurd s
  sim_same (member n x) (member k y) s = (s.0, sim_same x y s.1)
  sim_same (member n x) g s = absurd s
  sim_same (items b x) (items c y) s = s.0
  sim_same (items b x) g s = absurd s
  sim_same (unions i x) (unions j y) s = s.0
  sim_same (unions i x) g s = absurd s
  sim_same absent g s = s
  sim_same missing g s = s
  sim_same (default v) g s = s
  sim_same (shown x) g s = s
  sim_same (bits n) g s = s
  sim_same (known n) g s = s
  sim_same (stranger n) g s = s
  sim_same (fault x) g s = s

  -- ---- values

  said_sim : (r : Result (List ℕ) (List ℕ)) → Sim (said r) (said r)
  said_sim (Ok x) = refl
  said_sim (Err x) = refl

  bits_sim : (r : Result ℕ (List ℕ)) → Sim (said_bits r) (said_bits r)
  bits_sim (Ok x) = refl
  bits_sim (Err x) = refl

  scalar_sim : (s : Scalar) (S : List ℕ) (f : ℕ) → Sim (scalar_found s S f) (scalar_found s S f)
  scalar_sim scalar.Bool S f = said_sim _
  scalar_sim scalar.Byte S f = said_sim _
  scalar_sim scalar.UByte S f = said_sim _
  scalar_sim scalar.Short S f = said_sim _
  scalar_sim scalar.UShort S f = said_sim _
  scalar_sim scalar.Int S f = said_sim _
  scalar_sim scalar.UInt S f = said_sim _
  scalar_sim scalar.Long S f = said_sim _
  scalar_sim scalar.ULong S f = said_sim _
  scalar_sim scalar.Float S f = bits_sim _
  scalar_sim scalar.Double S f = bits_sim _

  table_sim : (i j : ℕ) → Matches m i j → (r : Result Seen (List ℕ)) → Sim (table_found i r) (table_found j r)
  table_sim i j e (Ok x) = (refl, e)
  table_sim i j e (Err x) = refl

  bytes_sim : (i j : ℕ) → Matches m i j → (size : ℕ) (S : List ℕ) (f : ℕ) → Sim (bytes_found i size S f) (bytes_found j size S f)
  bytes_sim i j e size S f = by_test (nat_le (f + size) (length S))
    where
      by_test : (t : Bool) → Sim (if t then structure i (take size (drop f S)) else fault (fault_text InvalidOffset)) (if t then structure j (take size (drop f S)) else fault (fault_text InvalidOffset))
      by_test true = (refl, e)
      by_test false = refl

  bytes_near : (i j : ℕ) → Matches m i j → (size : ℕ) (S : List ℕ) (f : ℕ) → Near (bytes_found i size S f) (bytes_found j size S f)
  bytes_near i j e size S f = inr (bytes_sim i j e size S f)

  -- enums of one type, which know the same numbers as far as is met
  abbrev EnumFit : Option Enum → Option Enum → Type 0
  EnumFit None o = Unit {0}
  EnumFit (Some e) None = ⊥
  EnumFit (Some e) (Some g) = (e.scalar ≡ g.scalar) × ((n : ℕ) → Near (number_found e (Ok n)) (number_found g (Ok n)))

  abbrev PartFit : Option StructField → Option StructField → Type 0
  PartFit None o = Unit {0}
  PartFit (Some f) None = ⊥
  PartFit (Some f) (Some g) = (same_base m f.base g.base ≡ true) × (f.count ≡ g.count)

  -- structs of one size, with the same type at each distance
  abbrev StructFit : Option Struct → Option Struct → Type 0
  StructFit None o = Unit {0}
  StructFit (Some s) None = ⊥
  StructFit (Some s) (Some t) = (s.size ≡ t.size) × ((n : ℕ) → PartFit (part_in s.fields.items n) (part_in t.fields.items n))

  -- the same type, as far as the tag is met
  abbrev pub MemberFit : Option UnionMember → Option UnionMember → Type 0
  MemberFit None o = Unit {0}
  MemberFit (Some a) None = meets_old w ≡ false
  MemberFit (Some a) (Some b) = same_base m a.base b.base ≡ true

  abbrev pub AddedFit : Option UnionMember → Option UnionMember → Type 0
  AddedFit None (Some b) = meets_new w ≡ false
  AddedFit o p = Unit {0}

  -- unions with the same type for each tag, as far as tags are met
  abbrev pub UnionFit : Option Union → Option Union → Type 0
  UnionFit None o = Unit {0}
  UnionFit (Some u) None = ⊥
  UnionFit (Some u) (Some v) = (tag : ℕ) → MemberFit (member_in u.members.items tag) (member_in v.members.items tag) × AddedFit (member_in u.members.items tag) (member_in v.members.items tag)

  abbrev BodyFit : Option Body → Option Body → Type 0
  BodyFit b c = EnumFit (enum_in b) (enum_in c) × StructFit (struct_in b) (struct_in c) × UnionFit (union_in b) (union_in c)

  Fits : Type 0
  Fits = (i j : ℕ) → Matches m i j → BodyFit (body_at old i) (body_at new j)

  enum_fit : Fits → (i j : ℕ) → Matches m i j → EnumFit (enum_in (body_at old i)) (enum_in (body_at new j))
  unfolding Fits
  enum_fit h i j e = (h i j e).0

  struct_fit : Fits → (i j : ℕ) → Matches m i j → StructFit (struct_in (body_at old i)) (struct_in (body_at new j))
  unfolding Fits
  struct_fit h i j e = (h i j e).1

  union_fit : Fits → (i j : ℕ) → Matches m i j → UnionFit (union_in (body_at old i)) (union_in (body_at new j))
  unfolding Fits
  union_fit h i j e = (h i j e).2

  number_near : (e g : Enum) → ((n : ℕ) → Near (number_found e (Ok n)) (number_found g (Ok n))) → (r : Result ℕ (List ℕ)) → Near (number_found e r) (number_found g r)
  number_near e g h (Ok n) = h n
  number_near e g h (Err x) = inr refl

  enum_near : (o p : Option Enum) → EnumFit o p → (S : List ℕ) (f : ℕ) → Near (enum_found o S f) (enum_found p S f)
  enum_near None p x S f = inr tt
  enum_near (Some e) None x S f = absurd x
  enum_near (Some e) (Some g) x S f =
      subst (λ s. Near (number_found e (bits_at (width_of e.scalar) S f)) (number_found g (bits_at (width_of s) S f))) x.0
      (number_near e g x.1 (bits_at (width_of e.scalar) S f))

  enum_item_near : (o p : Option Enum) → EnumFit o p → (S : List ℕ) (k : ℕ) → Near (enum_found o S (k * enum_size o)) (enum_found p S (k * enum_size p))
  enum_item_near None p x S k = inr tt
  enum_item_near (Some e) None x S k = absurd x
  enum_item_near (Some e) (Some g) x S k =
      subst (λ s. Near (number_found e (bits_at (width_of e.scalar) S (k * scalar_size e.scalar))) (number_found g (bits_at (width_of s) S (k * scalar_size s)))) x.0
      (number_near e g x.1 (bits_at (width_of e.scalar) S (k * scalar_size e.scalar)))

  struct_near : (i j : ℕ) → Matches m i j → (o p : Option Struct) → StructFit o p → (S : List ℕ) (f : ℕ) → Near (struct_found i o S f) (struct_found j p S f)
  struct_near i j e None p x S f = inr tt
  struct_near i j e (Some s) None x S f = absurd x
  struct_near i j e (Some s) (Some t) x S f =
      subst (λ n. Near (bytes_found i s.size S f) (bytes_found j n S f)) x.0 (bytes_near i j e s.size S f)

  struct_item_near : (i j : ℕ) → Matches m i j → (o p : Option Struct) → StructFit o p → (S : List ℕ) (k : ℕ) → Near (struct_found i o S (k * struct_size o)) (struct_found j p S (k * struct_size p))
  struct_item_near i j e None p x S k = inr tt
  struct_item_near i j e (Some s) None x S k = absurd x
  struct_item_near i j e (Some s) (Some t) x S k =
      subst (λ n. Near (bytes_found i s.size S (k * s.size)) (bytes_found j n S (k * n))) x.0 (bytes_near i j e s.size S (k * s.size))

  value_near : Fits → (a b : Base) → same_base m a b ≡ true → (S : List ℕ) (f : ℕ) → Near (value_found old a S f) (value_found new b S f)
  value_near h (base.Scalar s) (base.Scalar t) e S f =
      inr (subst (λ u. Sim (scalar_found s S f) (scalar_found u S f)) (same_scalars s t e) (scalar_sim s S f))
  value_near h base.Text base.Text e S f = inr (said_sim _)
  value_near h (base.Table i) (base.Table j) e S f = inr (table_sim i j (is_index_some _ j e) (table_at S f))
  value_near h (base.Enum i) (base.Enum j) e S f =
      enum_near (enum_in (body_at old i)) (enum_in (body_at new j)) (enum_fit h i j (is_index_some _ j e)) S f
  value_near h (base.Struct i) (base.Struct j) e S f =
      struct_near i j (is_index_some _ j e) (struct_in (body_at old i)) (struct_in (body_at new j)) (struct_fit h i j (is_index_some _ j e)) S f
  value_near h (base.Union i) b e S f = inr tt
  value_near h a b e S f = absurd cc

  item_value_near : Fits → (a b : Base) → same_base m a b ≡ true → (S : List ℕ) (k : ℕ) → Near (value_found old a S (k * stride old a)) (value_found new b S (k * stride new b))
  item_value_near h (base.Scalar s) (base.Scalar t) e S k =
      inr (subst (λ u. Sim (scalar_found s S (k * scalar_size s)) (scalar_found u S (k * scalar_size u))) (same_scalars s t e) (scalar_sim s S (k * scalar_size s)))
  item_value_near h base.Text base.Text e S k = inr (said_sim _)
  item_value_near h (base.Table i) (base.Table j) e S k = inr (table_sim i j (is_index_some _ j e) (table_at S (k * 4)))
  item_value_near h (base.Enum i) (base.Enum j) e S k =
      enum_item_near (enum_in (body_at old i)) (enum_in (body_at new j)) (enum_fit h i j (is_index_some _ j e)) S k
  item_value_near h (base.Struct i) (base.Struct j) e S k =
      struct_item_near i j (is_index_some _ j e) (struct_in (body_at old i)) (struct_in (body_at new j)) (struct_fit h i j (is_index_some _ j e)) S k
  item_value_near h (base.Union i) b e S k = inr tt
  item_value_near h a b e S k = absurd cc

  -- ---- vectors

  items_sim : (a b : Base) → same_base m a b ≡ true → (r : Result SeenItems (List ℕ)) → Sim (items_found a r) (items_found b r)
  items_sim a b e (Ok x) = (refl, e)
  items_sim a b e (Err x) = refl

  sized_sim : (a b : Base) → same_base m a b ≡ true → (k n : ℕ) → k ≡ n → (S : List ℕ) (f : ℕ) → Sim (sized_list a k S f) (sized_list b n S f)
  sized_sim a b e k n is S f =
      subst (λ x. Sim (sized_list a k S f) (sized_list b x S f)) is (items_sim a b e (vector_at k S f))

  enum_list_sim : (i j : ℕ) → same_base m (base.Enum i) (base.Enum j) ≡ true → (o p : Option Enum) → EnumFit o p → (S : List ℕ) (f : ℕ) → Sim (enum_list i o S f) (enum_list j p S f)
  enum_list_sim i j e None p x S f = tt
  enum_list_sim i j e (Some a) None x S f = absurd x
  enum_list_sim i j e (Some a) (Some b) x S f =
      sized_sim (base.Enum i) (base.Enum j) e (scalar_size a.scalar) (scalar_size b.scalar) (ap scalar_size x.0) S f

  struct_list_sim : (i j : ℕ) → same_base m (base.Struct i) (base.Struct j) ≡ true → (o p : Option Struct) → StructFit o p → (S : List ℕ) (f : ℕ) → Sim (struct_list i o S f) (struct_list j p S f)
  struct_list_sim i j e None p x S f = tt
  struct_list_sim i j e (Some a) None x S f = absurd x
  struct_list_sim i j e (Some a) (Some b) x S f =
      sized_sim (base.Struct i) (base.Struct j) e a.size b.size x.0 S f

  list_sim : Fits → (a b : Base) → same_base m a b ≡ true → (S : List ℕ) (f : ℕ) → Sim (list_found old a S f) (list_found new b S f)
  list_sim h (base.Scalar s) (base.Scalar t) e S f =
      sized_sim (base.Scalar s) (base.Scalar t) e (scalar_size s) (scalar_size t) (ap scalar_size (same_scalars s t e)) S f
  list_sim h base.Text base.Text e S f = items_sim base.Text base.Text e (vector_at 4 S f)
  list_sim h (base.Table i) (base.Table j) e S f = items_sim (base.Table i) (base.Table j) e (vector_at 4 S f)
  list_sim h (base.Enum i) (base.Enum j) e S f =
      enum_list_sim i j e (enum_in (body_at old i)) (enum_in (body_at new j)) (enum_fit h i j (is_index_some _ j e)) S f
  list_sim h (base.Struct i) (base.Struct j) e S f =
      struct_list_sim i j e (struct_in (body_at old i)) (struct_in (body_at new j)) (struct_fit h i j (is_index_some _ j e)) S f
  list_sim h (base.Union i) b e S f = tt
  list_sim h a b e S f = absurd cc

  -- ---- absent fields

  choose_near : (v u : Bool) → same_truth v u ≡ true → (a b c d : Found) → Near a c → Near b d → Near (if v then a else b) (if u then c else d)
  choose_near true true e a b c d x y = x
  choose_near true false e a b c d x y = absurd cc
  choose_near false true e a b c d x y = absurd cc
  choose_near false false e a b c d x y = y

  default_sim : (p q : Bool) (v u : DefaultV) → (if p || q then p && q else same_given v u) ≡ true → Sim (if p then absent else default v) (if q then absent else default u)
  default_sim true true v u e = refl
  default_sim true false v u e = absurd cc
  default_sim false true v u e = absurd cc
  default_sim false false v u e = ap default (same_givens v u e)

  left_out : (p : Bool) (v : DefaultV) → is_left_out (if p then absent else default v) ≡ true
  left_out true v = refl
  left_out false v = refl

  -- what is left out isn't withdrawn
  backward_missing : (x y : Found) → is_left_out y ≡ true → is_excused way.Backward missing y ≡ true
  backward_missing x absent e = refl
  backward_missing x (default v) e = refl
  backward_missing x y e = absurd cc

  forward_missing : (x : Found) → is_left_out x ≡ true → is_excused way.Forward x missing ≡ true
  forward_missing absent e = refl
  forward_missing (default v) e = refl
  forward_missing x e = absurd cc

  require_near : (r s d : Bool) → may_require w r s ≡ true → (r || s || d) ≡ true → (x y : Found) → is_left_out x ≡ true → is_left_out y ≡ true → (d ≡ true → Sim x y) → Near (if r then missing else x) (if s then missing else y)
  require_near r s d e k x y a b h = by_way w r s e k
    where
      by_way : (v : Way) (r s : Bool) → may_require v r s ≡ true → (r || s || d) ≡ true → (is_excused v (if r then missing else x) (if s then missing else y) ≡ true) ⊎ Sim (if r then missing else x) (if s then missing else y)
      by_way v true true e k = inr refl
      by_way v false false e k = inr (h k)
      by_way way.Both true false e k = absurd cc
      by_way way.Both false true e k = absurd cc
      by_way way.Backward true false e k = inl (backward_missing x y b)
      by_way way.Backward false true e k = absurd cc
      by_way way.Forward true false e k = absurd cc
      by_way way.Forward false true e k = inl (forward_missing x a)

  absent_near : (f g : TableField) → may_require w f.required g.required ≡ true → (f.required || g.required || same_default f g) ≡ true → Near (absent_found f) (absent_found g)
  absent_near f g e k =
      require_near f.required g.required (same_default f g) e k (default_found f.kind (default_of f)) (default_found g.kind (default_of g))
      (left_out (is_nothing f.kind (default_of f)) (given f.kind.base (default_of f))) (left_out (is_nothing g.kind (default_of g)) (given g.kind.base (default_of g)))
      (λ d. default_sim (is_nothing f.kind (default_of f)) (is_nothing g.kind (default_of g)) (given f.kind.base (default_of f)) (given g.kind.base (default_of g)) d)

  -- ---- fields that both schemas' code reads

  abbrev Kept : TableField → TableField → Type 0
  Kept f g = (same_type m f.kind g.kind ≡ true) × (may_require w f.required g.required ≡ true)
      × ((f.required || g.required || same_default f g) ≡ true) × (same_nested m f.nested g.nested ≡ true)

  kept_none : (f g : TableField) → kept_change w m f g ≡ None → Kept f g
  kept_none f g e =
      no_change change.TypeChanged change.RequiredChanged change.DefaultChanged change.NestedChanged
      (same_type m f.kind g.kind) (may_require w f.required g.required) (f.required || g.required || same_default f g) (same_nested m f.nested g.nested) e

  present_near : Fits → (t u : FieldType) → same_type m t u ≡ true → (S : List ℕ) (f : ℕ) → Near (present_found old t S f) (present_found new u S f)
  present_near h t u e S f =
      let parts = both_true (same_truth t.vector u.vector) (same_base m t.base u.base) e in
      choose_near t.vector u.vector parts.0 _ _ _ _ (inr (list_sim h t.base u.base parts.1 S f)) (value_near h t.base u.base parts.1 S f)

  abbrev found_at : List Declared → TableField → ℕ → List ℕ → Found
  found_at ds f p S = if p == 0 then absent_found f else present_found ds f.kind S p

  at_near : Fits → (f g : TableField) → Kept f g → (p : ℕ) (S : List ℕ) → Near (found_at old f p S) (found_at new g p S)
  at_near h f g k p S = by_test (p == 0)
    where
      by_test : (b : Bool) → Near (if b then absent_found f else present_found old f.kind S p) (if b then absent_found g else present_found new g.kind S p)
      by_test true = absent_near f g k.1 k.2
      by_test false = present_near h f.kind g.kind k.0 S p

  placed_near : Fits → (f g : TableField) → Kept f g → f.slot ≡ g.slot → (seen : Seen) → Near (placed_found old f seen) (placed_found new g seen)
  placed_near h f g k e seen =
      subst (λ n. Near (placed_found old f seen) (found_at new g (Slot seen.slots n) seen.object)) e
      (at_near h f g k (Slot seen.slots f.slot) seen.object)

  newer_tag : (v : Way) → meets_new v ≡ false → (n : ℕ) (x : Found) → is_excused v (stranger n) (member n x) ≡ true
  newer_tag way.Both e n x = absurd cc
  newer_tag way.Backward e n x = or_right (is_withdrawn (member n x) || is_unopened (member n x) || (is_missing (stranger n) && is_left_out (member n x))) (is_number_read n (member n x)) (eq-eqb n n refl)
  newer_tag way.Forward e n x = absurd cc

  older_tag : (v : Way) → meets_old v ≡ false → (n : ℕ) (x : Found) → is_excused v (member n x) (stranger n) ≡ true
  older_tag way.Both e n x = absurd cc
  older_tag way.Backward e n x = absurd cc
  older_tag way.Forward e n x = or_right (is_left_out (member n x) && false) (is_number_read n (member n x)) (eq-eqb n n refl)

  led_sim : (i j : ℕ) → Matches m i j → (o p : Option Struct) → StructFit o p → (S : List ℕ) (f : ℕ) (r : Result ℕ (List ℕ)) → Sim (led_found i o S f r) (led_found j p S f r)
  led_sim i j e o p x S f (Ok n) = by_struct o p x
    where
      by_struct : (o p : Option Struct) → StructFit o p → Sim (struct_found i o S (f + n)) (struct_found j p S (f + n))
      by_struct None p x = tt
      by_struct (Some s) None x = absurd x
      by_struct (Some s) (Some t) x =
          subst (λ k. Sim (bytes_found i s.size S (f + n)) (bytes_found j k S (f + n))) x.0 (bytes_sim i j e s.size S (f + n))
  led_sim i j e o p x S f (Err message) = refl

  member_sim : Fits → (a b : Base) → same_base m a b ≡ true → (S : List ℕ) (f : ℕ) → Sim (member_found old a S f) (member_found new b S f)
  member_sim h (base.Table i) (base.Table j) e S f = table_sim i j (is_index_some _ j e) (table_at S f)
  member_sim h (base.Struct i) (base.Struct j) e S f =
      led_sim i j (is_index_some _ j e) (struct_in (body_at old i)) (struct_in (body_at new j)) (struct_fit h i j (is_index_some _ j e)) S f (bits_at w32 S f)
  member_sim h base.Text base.Text e S f = said_sim _
  member_sim h (base.Scalar s) b e S f = tt
  member_sim h (base.Enum i) b e S f = tt
  member_sim h (base.Union i) b e S f = tt
  member_sim h a b e S f = absurd cc

  tagged_near : Fits → (n : ℕ) (o p : Option UnionMember) → MemberFit o p → AddedFit o p → (S : List ℕ) (f : ℕ) → Near (tagged_found old n o S f) (tagged_found new n p S f)
  tagged_near h n None None x y S f = inr refl
  tagged_near h n None (Some b) x y S f = inl (newer_tag w y n (member_found new b.base S f))
  tagged_near h n (Some a) None x y S f = inl (older_tag w x n (member_found old a.base S f))
  tagged_near h n (Some a) (Some b) x y S f = inr (refl, member_sim h a.base b.base x S f)

  union_near : Fits → (o p : Option Union) → UnionFit o p → (tag : ℕ) (S : List ℕ) (f : ℕ) → Near (union_found old o tag S f) (union_found new p tag S f)
  union_near h None p x tag S f = inr tt
  union_near h (Some u) None x tag S f = absurd x
  union_near h (Some u) (Some v) x tag S f =
      tagged_near h tag (member_in u.members.items tag) (member_in v.members.items tag) (x tag).0 (x tag).1 S f

  one_near : Fits → (f g : TableField) → Kept f g → (i j : ℕ) → Matches m i j → (seen : Seen) (r : Result (Option SeenUnion) (List ℕ)) → Near (one_union_found old f i seen r) (one_union_found new g j seen r)
  one_near h f g k i j e seen (Ok None) = absent_near f g k.1 k.2
  one_near h f g k i j e seen (Ok (Some u)) =
      union_near h (union_in (body_at old i)) (union_in (body_at new j)) (union_fit h i j e) u.tag seen.object u.offset
  one_near h f g k i j e seen (Err x) = inr refl

  unions_near : (f g : TableField) → Kept f g → (i j : ℕ) → Matches m i j → (r : Result (Option SeenUnions) (List ℕ)) → Near (unions_found f i r) (unions_found g j r)
  unions_near f g k i j e (Ok None) = absent_near f g k.1 k.2
  unions_near f g k i j e (Ok (Some u)) = inr (refl, e)
  unions_near f g k i j e (Err x) = inr refl

  abbrev union_from : List Declared → TableField → ℕ → Seen → ℕ → Found
  union_from ds f i seen n = if f.kind.vector then unions_found f i (unions_at seen (n - 1))
      else one_union_found ds f i seen (union_at seen (n - 1))

  union_field_near : Fits → (f g : TableField) → Kept f g → f.slot ≡ g.slot → same_truth f.kind.vector g.kind.vector ≡ true → (i j : ℕ) → Matches m i j → (seen : Seen) → Near (union_field_found old f i seen) (union_field_found new g j seen)
  union_field_near h f g k e v i j is seen =
      subst (λ n. Near (union_field_found old f i seen) (union_from new g j seen n)) e
      (choose_near f.kind.vector g.kind.vector v (unions_found f i (unions_at seen (f.slot - 1))) (one_union_found old f i seen (union_at seen (f.slot - 1))) (unions_found g j (unions_at seen (f.slot - 1))) (one_union_found new g j seen (union_at seen (f.slot - 1))) (unions_near f g k i j is (unions_at seen (f.slot - 1))) (one_near h f g k i j is seen (union_at seen (f.slot - 1))))

  by_near : Fits → (f g : TableField) → Kept f g → f.slot ≡ g.slot → same_truth f.kind.vector g.kind.vector ≡ true → (a b : Base) → same_base m a b ≡ true → (seen : Seen) → Near (found_by old f a seen) (found_by new g b seen)
  by_near h f g k e v (base.Union i) (base.Union j) s seen = union_field_near h f g k e v i j (is_index_some _ j s) seen
  by_near h f g k e v (base.Scalar i) (base.Scalar j) s seen = placed_near h f g k e seen
  by_near h f g k e v base.Text base.Text s seen = placed_near h f g k e seen
  by_near h f g k e v (base.Enum i) (base.Enum j) s seen = placed_near h f g k e seen
  by_near h f g k e v (base.Struct i) (base.Struct j) s seen = placed_near h f g k e seen
  by_near h f g k e v (base.Table i) (base.Table j) s seen = placed_near h f g k e seen
  by_near h f g k e v a b s seen = absurd cc

  kept_near : Fits → (f g : TableField) → Kept f g → f.slot ≡ g.slot → (seen : Seen) → Near (field_found old f seen) (field_found new g seen)
  kept_near h f g k e seen =
      let parts = both_true (same_truth f.kind.vector g.kind.vector) (same_base m f.kind.base g.kind.base) k.0 in
      by_near h f g k e parts.0 f.kind.base g.kind.base parts.1 seen

  -- ---- buffers in byte vectors

  inner_sim : (i j : ℕ) → Matches m i j → (r : Result (List ℕ) (List ℕ)) → Sim (inner_root i r) (inner_root j r)
  inner_sim i j e (Ok x) = table_sim i j e (table_at x 0)
  inner_sim i j e (Err x) = refl

  abbrev inner_at : TableField → ℕ → ℕ → List ℕ → Found
  inner_at f i p S = if p == 0 then absent_found f else inner_root i (answered (byte_list_tests S p) (content_at S p))

  inner_at_near : (f g : TableField) → Kept f g → (i j : ℕ) → Matches m i j → (p : ℕ) (S : List ℕ) → Near (inner_at f i p S) (inner_at g j p S)
  inner_at_near f g k i j e p S = by_test (p == 0)
    where
      by_test : (b : Bool) → Near (if b then absent_found f else inner_root i (answered (byte_list_tests S p) (content_at S p))) (if b then absent_found g else inner_root j (answered (byte_list_tests S p) (content_at S p)))
      by_test true = absent_near f g k.1 k.2
      by_test false = inr (inner_sim i j e (answered (byte_list_tests S p) (content_at S p)))

  unopened_excused : (v : Way) (x : Found) → is_excused v x unopened ≡ true
  unopened_excused way.Both x = refl
  unopened_excused way.Backward x = refl
  unopened_excused way.Forward x = refl

  inner_near : (f g : TableField) → Kept f g → f.slot ≡ g.slot → (o p : Option ℕ) → same_nested m o p ≡ true → (seen : Seen) → Near (inner_found f o seen) (inner_found g p seen)
  inner_near f g k e None p s seen = inr tt
  inner_near f g k e (Some i) None s seen = inl (unopened_excused w (inner_found f (Some i) seen))
  inner_near f g k e (Some i) (Some j) s seen =
      subst (λ n. Near (inner_found f (Some i) seen) (inner_at g j (Slot seen.slots n) seen.object)) e
      (inner_at_near f g k i j (is_index_some _ j s) (Slot seen.slots f.slot) seen.object)

  -- ---- deprecated fields

  -- Only the accessor of a required field fails for its absence.
  abbrev Needed : Bool → Found → Type 0
  Needed r x = r ≡ false → is_missing x ≡ false

  said_there : (r : Result (List ℕ) (List ℕ)) → is_missing (said r) ≡ false
  said_there (Ok x) = refl
  said_there (Err x) = refl

  bits_there : (r : Result ℕ (List ℕ)) → is_missing (said_bits r) ≡ false
  bits_there (Ok x) = refl
  bits_there (Err x) = refl

  scalar_there : (s : Scalar) (S : List ℕ) (f : ℕ) → is_missing (scalar_found s S f) ≡ false
  scalar_there scalar.Bool S f = said_there _
  scalar_there scalar.Byte S f = said_there _
  scalar_there scalar.UByte S f = said_there _
  scalar_there scalar.Short S f = said_there _
  scalar_there scalar.UShort S f = said_there _
  scalar_there scalar.Int S f = said_there _
  scalar_there scalar.UInt S f = said_there _
  scalar_there scalar.Long S f = said_there _
  scalar_there scalar.ULong S f = said_there _
  scalar_there scalar.Float S f = bits_there _
  scalar_there scalar.Double S f = bits_there _

  table_there : (i : ℕ) (r : Result Seen (List ℕ)) → is_missing (table_found i r) ≡ false
  table_there i (Ok x) = refl
  table_there i (Err x) = refl

  known_there : (b : Bool) (n : ℕ) → is_missing (if b then known n else stranger n) ≡ false
  known_there true n = refl
  known_there false n = refl

  number_there : (e : Enum) (r : Result ℕ (List ℕ)) → is_missing (number_found e r) ≡ false
  number_there e (Ok n) = known_there (is_known e n) n
  number_there e (Err x) = refl

  enum_there : (o : Option Enum) (S : List ℕ) (f : ℕ) → is_missing (enum_found o S f) ≡ false
  enum_there None S f = refl
  enum_there (Some e) S f = number_there e (bits_at (width_of e.scalar) S f)

  bytes_there : (b : Bool) (i : ℕ) (s x : List ℕ) → is_missing (if b then structure i s else fault x) ≡ false
  bytes_there true i s x = refl
  bytes_there false i s x = refl

  struct_there : (i : ℕ) (o : Option Struct) (S : List ℕ) (f : ℕ) → is_missing (struct_found i o S f) ≡ false
  struct_there i None S f = refl
  struct_there i (Some s) S f = bytes_there (nat_le (f + s.size) (length S)) i (take s.size (drop f S)) (fault_text InvalidOffset)

  value_there : (b : Base) (S : List ℕ) (f : ℕ) → is_missing (value_found old b S f) ≡ false
  value_there (base.Scalar s) S f = scalar_there s S f
  value_there base.Text S f = said_there _
  value_there (base.Enum i) S f = enum_there (enum_in (body_at old i)) S f
  value_there (base.Struct i) S f = struct_there i (struct_in (body_at old i)) S f
  value_there (base.Table i) S f = table_there i (table_at S f)
  value_there (base.Union i) S f = refl

  items_there : (b : Base) (r : Result SeenItems (List ℕ)) → is_missing (items_found b r) ≡ false
  items_there b (Ok x) = refl
  items_there b (Err x) = refl

  enum_list_there : (i : ℕ) (o : Option Enum) (S : List ℕ) (f : ℕ) → is_missing (enum_list i o S f) ≡ false
  enum_list_there i None S f = refl
  enum_list_there i (Some e) S f = items_there (base.Enum i) _

  struct_list_there : (i : ℕ) (o : Option Struct) (S : List ℕ) (f : ℕ) → is_missing (struct_list i o S f) ≡ false
  struct_list_there i None S f = refl
  struct_list_there i (Some s) S f = items_there (base.Struct i) _

  list_there : (b : Base) (S : List ℕ) (f : ℕ) → is_missing (list_found old b S f) ≡ false
  list_there (base.Scalar s) S f = items_there (base.Scalar s) _
  list_there base.Text S f = items_there base.Text _
  list_there (base.Enum i) S f = enum_list_there i (enum_in (body_at old i)) S f
  list_there (base.Struct i) S f = struct_list_there i (struct_in (body_at old i)) S f
  list_there (base.Table i) S f = items_there (base.Table i) _
  list_there (base.Union i) S f = refl

  choose_there : (b : Bool) (x y : Found) → is_missing x ≡ false → is_missing y ≡ false → is_missing (if b then x else y) ≡ false
  choose_there true x y e g = e
  choose_there false x y e g = g

  default_there : (p : Bool) (v : DefaultV) → is_missing (if p then absent else default v) ≡ false
  default_there true v = refl
  default_there false v = refl

  absent_there : (f : TableField) → Needed f.required (absent_found f)
  absent_there f e =
      subst (λ b. is_missing (if b then missing else default_found f.kind (default_of f)) ≡ false) (sym e)
      (default_there (is_nothing f.kind (default_of f)) (given f.kind.base (default_of f)))

  placed_there : (f : TableField) (seen : Seen) → Needed f.required (placed_found old f seen)
  placed_there f seen e =
      choose_there (Slot seen.slots f.slot == 0) (absent_found f) (present_found old f.kind seen.object (Slot seen.slots f.slot)) (absent_there f e)
      (choose_there f.kind.vector (list_found old f.kind.base seen.object (Slot seen.slots f.slot)) (value_found old f.kind.base seen.object (Slot seen.slots f.slot)) (list_there f.kind.base seen.object (Slot seen.slots f.slot)) (value_there f.kind.base seen.object (Slot seen.slots f.slot)))

  tagged_there : (n : ℕ) (o : Option UnionMember) (S : List ℕ) (f : ℕ) → is_missing (tagged_found old n o S f) ≡ false
  tagged_there n None S f = refl
  tagged_there n (Some a) S f = refl

  union_there : (o : Option Union) (n : ℕ) (S : List ℕ) (f : ℕ) → is_missing (union_found old o n S f) ≡ false
  union_there None n S f = refl
  union_there (Some u) n S f = tagged_there n (member_in u.members.items n) S f

  one_there : (f : TableField) (i : ℕ) (seen : Seen) (r : Result (Option SeenUnion) (List ℕ)) → Needed f.required (one_union_found old f i seen r)
  one_there f i seen (Ok None) e = absent_there f e
  one_there f i seen (Ok (Some u)) e = union_there (union_in (body_at old i)) u.tag seen.object u.offset
  one_there f i seen (Err x) e = refl

  unions_there : (f : TableField) (i : ℕ) (r : Result (Option SeenUnions) (List ℕ)) → Needed f.required (unions_found f i r)
  unions_there f i (Ok None) e = absent_there f e
  unions_there f i (Ok (Some u)) e = refl
  unions_there f i (Err x) e = refl

  by_there : (f : TableField) (b : Base) (seen : Seen) → Needed f.required (found_by old f b seen)
  by_there f (base.Union i) seen e =
      choose_there f.kind.vector (unions_found f i (unions_at seen (f.slot - 1))) (one_union_found old f i seen (union_at seen (f.slot - 1))) (unions_there f i (unions_at seen (f.slot - 1)) e) (one_there f i seen (union_at seen (f.slot - 1)) e)
  by_there f (base.Scalar i) seen e = placed_there f seen e
  by_there f base.Text seen e = placed_there f seen e
  by_there f (base.Enum i) seen e = placed_there f seen e
  by_there f (base.Struct i) seen e = placed_there f seen e
  by_there f (base.Table i) seen e = placed_there f seen e

  inner_root_there : (i : ℕ) (r : Result (List ℕ) (List ℕ)) → is_missing (inner_root i r) ≡ false
  inner_root_there i (Ok x) = table_there i (table_at x 0)
  inner_root_there i (Err x) = refl

  inner_there : (f : TableField) (o : Option ℕ) (seen : Seen) → Needed f.required (inner_found f o seen)
  inner_there f None seen e = refl
  inner_there f (Some i) seen e =
      choose_there (Slot seen.slots f.slot == 0) (absent_found f) (inner_root i (answered (byte_list_tests seen.object (Slot seen.slots f.slot)) (content_at seen.object (Slot seen.slots f.slot)))) (absent_there f e)
      (inner_root_there i (answered (byte_list_tests seen.object (Slot seen.slots f.slot)) (content_at seen.object (Slot seen.slots f.slot))))

  not_required : (r met : Bool) → (r && met) ≡ false → met ≡ true → r ≡ false
  not_required true true e d = absurd cc
  not_required true false e d = absurd cc
  not_required false met e d = refl

  withdrawn_near : (r : Bool) (x : Found) → Needed r x → (r && meets_new w) ≡ false → Near x withdrawn
  withdrawn_near r x h e = inl (by_way w e)
    where
      given_up : is_missing x ≡ false → is_given_up x withdrawn ≡ true
      given_up n = ap (λ b. (true && not b) || false) n

      by_way : (v : Way) → (r && meets_new v) ≡ false → is_excused v x withdrawn ≡ true
      by_way way.Both e = given_up (h (not_required r true e refl))
      by_way way.Backward e = refl
      by_way way.Forward e = or_left (is_given_up x withdrawn || (is_left_out x && is_missing withdrawn)) (is_newer withdrawn x)
          (or_left (is_given_up x withdrawn) (is_left_out x && is_missing withdrawn) (given_up (h (not_required r true e refl))))

  -- ---- fields of tables

  abbrev FieldFit : Option TableField → Option TableField → Type 0
  FieldFit o p = (seen : Seen) → Near (found_if old o seen) (found_if new p seen) × Near (buffer_if o seen) (buffer_if p seen)

  in_slot : (gs : List TableField) (n : ℕ) (g : TableField) → field_in gs n ≡ Some g → g.slot ≡ n
  in_slot [] n g e = absurd cc
  in_slot (h ∷ gs) n g e = by_test (λ is. in_slot gs n g is) (h.slot == n) refl e
    where
      slot_in : Option TableField → ℕ
      slot_in None = 0
      slot_in (Some x) = x.slot

      by_test : (field_in gs n ≡ Some g → g.slot ≡ n) → (b : Bool) → (h.slot == n) ≡ b → (if b then Some h else field_in gs n) ≡ Some g → g.slot ≡ n
      by_test rest true t is = subst (λ o. slot_in o ≡ n) is (eqb-true h.slot n t)
      by_test rest false t is = rest is

  read_fit : Fits → (f g : TableField) → f.slot ≡ g.slot → f.deprecated ≡ false → change_from w m f (Some g) ≡ None → FieldFit (Some f) (Some g)
  read_fit h f g e d c seen =
      subst (λ b. Near (if b then withdrawn else field_found old f seen) (found_if new (Some g) seen) × Near (if b then withdrawn else buffer_found f seen) (buffer_if (Some g) seen)) (sym d)
      (by_test g.deprecated c)
    where
      by_test : (b : Bool) → (if b then change_if (f.required && meets_new w) change.RequiredDeprecated else kept_change w m f g) ≡ None
          → Near (field_found old f seen) (if b then withdrawn else field_found new g seen) × Near (buffer_found f seen) (if b then withdrawn else buffer_found g seen)
      by_test true c =
          let none = none_if (f.required && meets_new w) change.RequiredDeprecated c in (
            withdrawn_near f.required (field_found old f seen) (by_there f f.kind.base seen) none,
            withdrawn_near f.required (buffer_found f seen) (inner_there f f.nested seen) none,
          )
      by_test false c =
          let kept = kept_none f g c in
          (kept_near h f g kept e seen, inner_near f g kept e f.nested g.nested kept.3 seen)

  unread_fit : (f : TableField) (p : Option TableField) → f.deprecated ≡ true → FieldFit (Some f) p
  unread_fit f p d seen =
      subst (λ b. Near (if b then withdrawn else field_found old f seen) (found_if new p seen) × Near (if b then withdrawn else buffer_found f seen) (buffer_if p seen)) (sym d)
      (inr tt, inr tt)

  one_fit : Fits → (f : TableField) (gs : List TableField) → field_change w m gs f ≡ None → FieldFit (Some f) (field_in gs f.slot)
  one_fit h f gs e = by_deprecated (true_or_false f.deprecated)
    where
      by_found : f.deprecated ≡ false → (o : Option TableField) → field_in gs f.slot ≡ o → change_from w m f o ≡ None → FieldFit (Some f) o
      by_found d None is c = absurd cc
      by_found d (Some g) is c = read_fit h f g (sym (in_slot gs f.slot g is)) d c

      by_moved : f.deprecated ≡ false → (b : Bool) → (if b then Some change.Moved else change_from w m f (field_in gs f.slot)) ≡ None → FieldFit (Some f) (field_in gs f.slot)
      by_moved d true e = absurd cc
      by_moved d false e = by_found d (field_in gs f.slot) refl e

      by_deprecated : (f.deprecated ≡ true) ⊎ (f.deprecated ≡ false) → FieldFit (Some f) (field_in gs f.slot)
      by_deprecated (inl d) = unread_fit f (field_in gs f.slot) d
      by_deprecated (inr d) =
          by_moved d (is_moved gs f) (subst (λ b. (if b then None else if is_moved gs f then Some change.Moved else change_from w m f (field_in gs f.slot)) ≡ None) d e)

  no_field_fit : (p : Option TableField) → FieldFit None p
  no_field_fit p seen = (inr tt, inr tt)

  fields_fit : Fits → (k : ℕ) (gs fs : List TableField) → field_breaks w m k gs fs ≡ [] → (n : ℕ) → FieldFit (field_in fs n) (field_in gs n)
  fields_fit h k gs [] e n = no_field_fit (field_in gs n)
  fields_fit h k gs (f ∷ fs) e n =
      let parts = both_nothing (noted (place.Field k f.slot) (field_change w m gs f)) (field_breaks w m k gs fs) e in
      by_test (noted_none (place.Field k f.slot) (field_change w m gs f) parts.0) (fields_fit h k gs fs parts.1 n) (f.slot == n) refl
    where
      by_test : field_change w m gs f ≡ None → FieldFit (field_in fs n) (field_in gs n) → (b : Bool) → (f.slot == n) ≡ b → FieldFit (if b then Some f else field_in fs n) (field_in gs n)
      by_test none rest true t = subst (λ s. FieldFit (Some f) (field_in gs s)) (eqb-true f.slot n t) (one_fit h f gs none)
      by_test none rest false t = rest

  fields_stay : (k : ℕ) (gs fs : List TableField) → field_breaks w m k gs fs ≡ [] → list_all (λ f. f.deprecated || not (is_moved gs f)) fs ≡ true
  fields_stay k gs [] e = refl
  fields_stay k gs (f ∷ fs) e =
      let parts = both_nothing (noted (place.Field k f.slot) (field_change w m gs f)) (field_breaks w m k gs fs) e in
      and_true _ _ (by_tests f.deprecated (is_moved gs f) (noted_none (place.Field k f.slot) (field_change w m gs f) parts.0)) (fields_stay k gs fs parts.1)
    where
      by_tests : (d b : Bool) → (if d then None else if b then Some change.Moved else change_from w m f (field_in gs f.slot)) ≡ None → (d || not b) ≡ true
      by_tests true b e = refl
      by_tests false true e = absurd cc
      by_tests false false e = refl

  -- ---- structs

  part_fit : (f : StructField) (o : Option StructField) → part_change_to m f o ≡ None → PartFit (Some f) o
  part_fit f None e = absurd cc
  part_fit f (Some g) e =
      let parts = both_true (same_base m f.base g.base) (same_count f.count g.count) (none_if_not (same_part m f g) change.TypeChanged e) in
      (parts.0, same_counts f.count g.count parts.1)

  one_part_fit : (f : StructField) (gs : List StructField) → part_change m gs f ≡ None → PartFit (Some f) (part_in gs f.distance)
  one_part_fit f gs e = by_moved (is_part_moved gs f) e
    where
      by_moved : (b : Bool) → (if b then Some change.Moved else part_change_to m f (part_in gs f.distance)) ≡ None → PartFit (Some f) (part_in gs f.distance)
      by_moved true e = absurd cc
      by_moved false e = part_fit f (part_in gs f.distance) e

  parts_fit : (k : ℕ) (gs fs : List StructField) → part_breaks m k gs fs ≡ [] → (n : ℕ) → PartFit (part_in fs n) (part_in gs n)
  parts_fit k gs [] e n = tt
  parts_fit k gs (f ∷ fs) e n =
      let parts = both_nothing (noted (place.Part k f.distance) (part_change m gs f)) (part_breaks m k gs fs) e in
      by_test (noted_none (place.Part k f.distance) (part_change m gs f) parts.0) (parts_fit k gs fs parts.1 n) (f.distance == n) refl
    where
      by_test : part_change m gs f ≡ None → PartFit (part_in fs n) (part_in gs n) → (b : Bool) → (f.distance == n) ≡ b → PartFit (if b then Some f else part_in fs n) (part_in gs n)
      by_test none rest true t = subst (λ s. PartFit (Some f) (part_in gs s)) (eqb-true f.distance n t) (one_part_fit f gs none)
      by_test none rest false t = rest

  parts_stay : (k : ℕ) (gs fs : List StructField) → part_breaks m k gs fs ≡ [] → list_all (λ f. not (is_part_moved gs f)) fs ≡ true
  parts_stay k gs [] e = refl
  parts_stay k gs (f ∷ fs) e =
      let parts = both_nothing (noted (place.Part k f.distance) (part_change m gs f)) (part_breaks m k gs fs) e in
      and_true _ _ (by_test (is_part_moved gs f) (noted_none (place.Part k f.distance) (part_change m gs f) parts.0)) (parts_stay k gs fs parts.1)
    where
      by_test : (b : Bool) → (if b then Some change.Moved else part_change_to m f (part_in gs f.distance)) ≡ None → not b ≡ true
      by_test true e = absurd cc
      by_test false e = refl

  structs_fit : (k : ℕ) (s t : Struct) → struct_breaks m k s t ≡ [] → StructFit (Some s) (Some t)
  structs_fit k s t e =
      let parts = both_nothing (part_breaks m k t.fields.items s.fields.items) (noted (place.Declaration k) (change_if (not (s.size == t.size)) change.SizeChanged)) e in (
        eqb-true s.size t.size (none_if_not (s.size == t.size) change.SizeChanged (noted_none (place.Declaration k) (change_if (not (s.size == t.size)) change.SizeChanged) parts.1)),
        parts_fit k t.fields.items s.fields.items parts.0,
      )

  -- ---- enums

  any_in : (s : Scalar) (v : EnumValue) (us : List EnumValue) (n : ℕ) → has_number us v.number ≡ true → (bits_of (scalar_size s) v.number == n) ≡ true → is_value s us n ≡ true
  any_in s v [] n e is = absurd cc
  any_in s v (u ∷ us) n e is = by_test (λ r. any_in s v us n r is) (same_number v.number u.number) refl e
    where
      by_test : (has_number us v.number ≡ true → is_value s us n ≡ true) → (t : Bool) → same_number v.number u.number ≡ t → (t || has_number us v.number) ≡ true → (bits_of (scalar_size s) u.number == n || is_value s us n) ≡ true
      by_test rest true t e =
          or_left (bits_of (scalar_size s) u.number == n) (is_value s us n) (subst (λ x. (bits_of (scalar_size s) x == n) ≡ true) (same_numbers v.number u.number t) is)
      by_test rest false t e = or_right (bits_of (scalar_size s) u.number == n) (is_value s us n) (rest e)

  -- each of these numbers is one of those
  abbrev Keeps : List EnumValue → List EnumValue → Type 0
  Keeps vs us = list_all (λ v. has_number us v.number) vs ≡ true

  values_in : (s : Scalar) (vs us : List EnumValue) (n : ℕ) → Keeps vs us → is_value s vs n ≡ true → is_value s us n ≡ true
  values_in s [] us n a e = absurd cc
  values_in s (v ∷ vs) us n a e =
      let parts = both_true (has_number us v.number) (list_all (λ v. has_number us v.number) vs) a in
      by_test (λ r. values_in s vs us n parts.1 r) parts.0 (bits_of (scalar_size s) v.number == n) refl e
    where
      by_test : (is_value s vs n ≡ true → is_value s us n ≡ true) → has_number us v.number ≡ true → (t : Bool) → (bits_of (scalar_size s) v.number == n) ≡ t → (t || is_value s vs n) ≡ true → is_value s us n ≡ true
      by_test rest any true t e = any_in s v us n any t
      by_test rest any false t e = rest e

  value_none : (met b has : Bool) → (if b then Some change.Moved else change_if (met && not has) change.ValueRemoved) ≡ None → met ≡ true → has ≡ true
  value_none met true has e t = absurd cc
  value_none met false true e t = refl
  value_none true false false e t = absurd cc
  value_none false false false e t = absurd cc

  values_kept : (met : Bool) (k : ℕ) (us vs : List EnumValue) → value_breaks met k us vs ≡ [] → met ≡ true → Keeps vs us
  values_kept met k us [] e t = refl
  values_kept met k us (v ∷ vs) e t =
      let parts = both_nothing (noted (place.Value k v.number) (value_change met us v)) (value_breaks met k us vs) e in
      and_true _ _ (value_none met (is_value_moved us v) (has_number us v.number) (noted_none (place.Value k v.number) (value_change met us v) parts.0) t) (values_kept met k us vs parts.1 t)

  added_none : (met has : Bool) → change_if (met && not has) change.ValueAdded ≡ None → met ≡ true → has ≡ true
  added_none met true e t = refl
  added_none true false e t = absurd cc
  added_none false false e t = absurd cc

  none_added : (met : Bool) (k : ℕ) (vs us : List EnumValue) → added_values met k vs us ≡ [] → met ≡ true → Keeps us vs
  none_added met k vs [] e t = refl
  none_added met k vs (u ∷ us) e t =
      let parts = both_nothing (noted (place.Value k u.number) (change_if (met && not (has_number vs u.number)) change.ValueAdded)) (added_values met k vs us) e in
      and_true _ _ (added_none met (has_number vs u.number) (noted_none (place.Value k u.number) (change_if (met && not (has_number vs u.number)) change.ValueAdded) parts.0) t) (none_added met k vs us parts.1 t)

  values_stay : (met : Bool) (k : ℕ) (us vs : List EnumValue) → value_breaks met k us vs ≡ [] → list_all (λ v. not (is_value_moved us v)) vs ≡ true
  values_stay met k us [] e = refl
  values_stay met k us (v ∷ vs) e =
      let parts = both_nothing (noted (place.Value k v.number) (value_change met us v)) (value_breaks met k us vs) e in
      and_true _ _ (by_test (is_value_moved us v) (noted_none (place.Value k v.number) (value_change met us v) parts.0)) (values_stay met k us vs parts.1)
    where
      by_test : (b : Bool) → (if b then Some change.Moved else change_if (met && not (has_number us v.number)) change.ValueRemoved) ≡ None → not b ≡ true
      by_test true e = absurd cc
      by_test false e = refl

  -- a number that one enum knows the other knows, where it is met
  still_known : (p q k l : Bool) → p ≡ q → (p ≡ false → k ≡ true → l ≡ true) → (p || k) ≡ true → (q || l) ≡ true
  still_known true true k l s h x = refl
  still_known true false k l s h x = absurd cc
  still_known false true k l s h x = absurd cc
  still_known false false k l s h x = h refl x

  known_near : (v : Way) (a b : Bool) (n : ℕ) → (meets_old v ≡ true → a ≡ true → b ≡ true) → (meets_new v ≡ true → b ≡ true → a ≡ true)
      → (is_excused v (if a then known n else stranger n) (if b then known n else stranger n) ≡ true) ⊎ Sim (if a then known n else stranger n) (if b then known n else stranger n)
  known_near v true true n p q = inr refl
  known_near v false false n p q = inr refl
  known_near way.Both true false n p q = let x = p refl refl in absurd cc
  known_near way.Backward true false n p q = let x = p refl refl in absurd cc
  known_near way.Forward true false n p q = inl (eq-eqb n n refl)
  known_near way.Both false true n p q = let x = q refl refl in absurd cc
  known_near way.Backward false true n p q = inl (eq-eqb n n refl)
  known_near way.Forward false true n p q = let x = q refl refl in absurd cc

  met_there : (met p : Bool) → met ≡ true → p ≡ false → (met && not p) ≡ true
  met_there true true e f = absurd cc
  met_there true false e f = refl
  met_there false p e f = absurd cc

  enums_fit : (k : ℕ) (e g : Enum) → enum_breaks w k e g ≡ [] → EnumFit (Some e) (Some g)
  enums_fit k e g x =
      let kept = value_breaks (meets_old w && not e.flags) k g.values.items e.values.items in
      let added = added_values (meets_new w && not e.flags) k e.values.items g.values.items in
      let first = both_nothing (noted (place.Declaration k) (enum_change e g) ++ kept) added x in
      let rest = both_nothing (noted (place.Declaration k) (enum_change e g)) kept first.0 in
      let parts = no_enum_change change.NumberTypeChanged change.FlagsChanged (scalar_code e.scalar == scalar_code g.scalar) (same_truth e.flags g.flags) (noted_none (place.Declaration k) (enum_change e g) rest.0) in
      let scalars : e.scalar ≡ g.scalar = same_scalars e.scalar g.scalar parts.0 in
      let flags : e.flags ≡ g.flags = same_truths e.flags g.flags parts.1 in (
        scalars,
        λ n. known_near w (is_known e n) (is_known g n) n
            (λ d. still_known e.flags g.flags (is_value e.scalar e.values.items n) (is_value g.scalar g.values.items n) flags
            (λ p is. subst (λ s. is_value s g.values.items n ≡ true) scalars
            (values_in e.scalar e.values.items g.values.items n (values_kept (meets_old w && not e.flags) k g.values.items e.values.items rest.1 (met_there (meets_old w) e.flags d p)) is)))
            (λ d. still_known g.flags e.flags (is_value g.scalar g.values.items n) (is_value e.scalar e.values.items n) (sym flags)
            (λ p is. values_in e.scalar g.values.items e.values.items n (none_added (meets_new w && not e.flags) k e.values.items g.values.items first.1 (met_there (meets_new w) e.flags d (flags ∙ p)))
            (subst (λ s. is_value s g.values.items n ≡ true) (sym scalars) is))),
      )

  -- ---- unions

  member_fit : (a : UnionMember) (o : Option UnionMember) → member_change_to (meets_old w) m a o ≡ None → MemberFit (Some a) o
  member_fit a None e = none_if (meets_old w) change.MemberRemoved e
  member_fit a (Some b) e = none_if_not (same_base m a.base b.base) change.MemberChanged e

  one_member_fit : (a : UnionMember) (bs : List UnionMember) → member_change (meets_old w) m bs a ≡ None → MemberFit (Some a) (member_in bs a.tag)
  one_member_fit a bs e = by_moved (is_member_moved bs a) e
    where
      by_moved : (b : Bool) → (if b then Some change.Moved else member_change_to (meets_old w) m a (member_in bs a.tag)) ≡ None → MemberFit (Some a) (member_in bs a.tag)
      by_moved true e = absurd cc
      by_moved false e = member_fit a (member_in bs a.tag) e

  members_fit : (k : ℕ) (bs xs : List UnionMember) → member_breaks (meets_old w) m k bs xs ≡ [] → (n : ℕ) → MemberFit (member_in xs n) (member_in bs n)
  members_fit k bs [] e n = tt
  members_fit k bs (a ∷ xs) e n =
      let parts = both_nothing (noted (place.Member k a.tag) (member_change (meets_old w) m bs a)) (member_breaks (meets_old w) m k bs xs) e in
      by_test (noted_none (place.Member k a.tag) (member_change (meets_old w) m bs a) parts.0) (members_fit k bs xs parts.1 n) (a.tag == n) refl
    where
      by_test : member_change (meets_old w) m bs a ≡ None → MemberFit (member_in xs n) (member_in bs n) → (b : Bool) → (a.tag == n) ≡ b → MemberFit (if b then Some a else member_in xs n) (member_in bs n)
      by_test none rest true t = subst (λ s. MemberFit (Some a) (member_in bs s)) (eqb-true a.tag n t) (one_member_fit a bs none)
      by_test none rest false t = rest

  members_stay : (met : Bool) (k : ℕ) (bs xs : List UnionMember) → member_breaks met m k bs xs ≡ [] → list_all (λ a. not (is_member_moved bs a)) xs ≡ true
  members_stay met k bs [] e = refl
  members_stay met k bs (a ∷ xs) e =
      let parts = both_nothing (noted (place.Member k a.tag) (member_change met m bs a)) (member_breaks met m k bs xs) e in
      and_true _ _ (by_test (is_member_moved bs a) (noted_none (place.Member k a.tag) (member_change met m bs a) parts.0)) (members_stay met k bs xs parts.1)
    where
      by_test : (b : Bool) → (if b then Some change.Moved else member_change_to met m a (member_in bs a.tag)) ≡ None → not b ≡ true
      by_test true e = absurd cc
      by_test false e = refl

  added_fit : (o : Option UnionMember) (b : UnionMember) → change_if (meets_new w && not (is_member o)) change.MemberAdded ≡ None → AddedFit o (Some b)
  added_fit None b e = and_of (meets_new w) (none_if (meets_new w && true) change.MemberAdded e)
    where
      and_of : (a : Bool) → (a && true) ≡ false → a ≡ false
      and_of true e = absurd cc
      and_of false e = refl
  added_fit (Some a) b e = tt

  no_member_added : (o : Option UnionMember) → AddedFit o None
  no_member_added None = tt
  no_member_added (Some a) = tt

  added_members_fit : (k : ℕ) (xs bs : List UnionMember) → added_members (meets_new w) k xs bs ≡ [] → (n : ℕ) → AddedFit (member_in xs n) (member_in bs n)
  added_members_fit k xs [] e n = no_member_added (member_in xs n)
  added_members_fit k xs (b ∷ bs) e n =
      let parts = both_nothing (noted (place.Member k b.tag) (change_if (meets_new w && not (is_member (member_in xs b.tag))) change.MemberAdded)) (added_members (meets_new w) k xs bs) e in
      by_test (noted_none (place.Member k b.tag) (change_if (meets_new w && not (is_member (member_in xs b.tag))) change.MemberAdded) parts.0) (added_members_fit k xs bs parts.1 n) (b.tag == n) refl
    where
      by_test : change_if (meets_new w && not (is_member (member_in xs b.tag))) change.MemberAdded ≡ None → AddedFit (member_in xs n) (member_in bs n) → (t : Bool) → (b.tag == n) ≡ t → AddedFit (member_in xs n) (if t then Some b else member_in bs n)
      by_test none rest true t = subst (λ s. AddedFit (member_in xs s) (Some b)) (eqb-true b.tag n t) (added_fit (member_in xs b.tag) b none)
      by_test none rest false t = rest

  pub unions_fit : (k : ℕ) (u v : Union) → union_breaks w m k u v ≡ [] → UnionFit (Some u) (Some v)
  unions_fit k u v e tag =
      let parts = both_nothing (member_breaks (meets_old w) m k v.members.items u.members.items) (added_members (meets_new w) k u.members.items v.members.items) e in
      (members_fit k v.members.items u.members.items parts.0 tag, added_members_fit k u.members.items v.members.items parts.1 tag)

  -- ---- declarations

  fits_to : (k : ℕ) (b c : Body) → breaks_to w m k b c ≡ [] → BodyFit (Some b) (Some c)
  fits_to k (body.Table t) (body.Table u) e = (tt, tt, tt)
  fits_to k (body.Struct s) (body.Struct t) e = (tt, structs_fit k s t e, tt)
  fits_to k (body.Enum x) (body.Enum y) e = (enums_fit k x y e, tt, tt)
  fits_to k (body.Union u) (body.Union v) e = (tt, tt, unions_fit k u v e)
  fits_to k b c e = absurd cc

  fits_body : (k : ℕ) (b : Body) (o : Option Body) → body_breaks w m k b o ≡ [] → BodyFit (Some b) o
  fits_body k b None e = absurd cc
  fits_body k b (Some c) e = fits_to k b c e

  abbrev TableFit : Option Body → Option Body → Type 0
  TableFit b c = (n : ℕ) → FieldFit (field_in (fields_in b) n) (field_in (fields_in c) n)

  tables_to : Fits → (k : ℕ) (b c : Body) → breaks_to w m k b c ≡ [] → TableFit (Some b) (Some c)
  tables_to h k (body.Table t) (body.Table u) e n = fields_fit h k u.fields.items t.fields.items e n
  tables_to h k (body.Struct s) c e n = no_field_fit (field_in (fields_in (Some c)) n)
  tables_to h k (body.Enum s) c e n = no_field_fit (field_in (fields_in (Some c)) n)
  tables_to h k (body.Union s) c e n = no_field_fit (field_in (fields_in (Some c)) n)
  tables_to h k b c e n = absurd cc

  tables_body : Fits → (k : ℕ) (b : Body) (o : Option Body) → body_breaks w m k b o ≡ [] → TableFit (Some b) o
  tables_body h k b None e n = absurd cc
  tables_body h k b (Some c) e n = tables_to h k b c e n

  names_to : (k : ℕ) (b c : Body) → breaks_to w m k b c ≡ [] → names_stay b c ≡ true
  names_to k (body.Table t) (body.Table u) e = fields_stay k u.fields.items t.fields.items e
  names_to k (body.Struct s) (body.Struct t) e =
      parts_stay k t.fields.items s.fields.items (both_nothing (part_breaks m k t.fields.items s.fields.items) (noted (place.Declaration k) (change_if (not (s.size == t.size)) change.SizeChanged)) e).0
  names_to k (body.Enum x) (body.Enum y) e =
      let kept = value_breaks (meets_old w && not x.flags) k y.values.items x.values.items in
      let added = added_values (meets_new w && not x.flags) k x.values.items y.values.items in
      values_stay (meets_old w && not x.flags) k y.values.items x.values.items
      (both_nothing (noted (place.Declaration k) (enum_change x y)) kept (both_nothing (noted (place.Declaration k) (enum_change x y) ++ kept) added e).0).1
  names_to k (body.Union u) (body.Union v) e =
      members_stay (meets_old w) k v.members.items u.members.items (both_nothing (member_breaks (meets_old w) m k v.members.items u.members.items) (added_members (meets_new w) k u.members.items v.members.items) e).0
  names_to k b c e = refl

  -- what stands at an index
  declared_none : (k : ℕ) (ds : List Declared) (i : ℕ) (d : Declared) → breaks_from w m new k ds ≡ [] → slice_get ds i ≡ Some d → declared_breaks w m new (k + i) d ≡ []
  declared_none k [] i d e is = absurd cc
  declared_none k (x ∷ ds) zero d e is =
      let n : k ≡ k + zero = omega arith in
      subst (λ n. declared_breaks w m new n d ≡ []) n
      (subst (λ o. breaks_if o ≡ []) is (both_nothing (declared_breaks w m new k x) (breaks_from w m new (k + 1) ds) e).0)
    where
      breaks_if : Option Declared → List Break
      breaks_if None = []
      breaks_if (Some y) = declared_breaks w m new k y
  declared_none k (x ∷ ds) (suc i) d e is =
      let n : k + 1 + i ≡ k + suc i = omega arith in
      subst (λ n. declared_breaks w m new n d ≡ []) n
      (declared_none (k + 1) ds i d (both_nothing (declared_breaks w m new k x) (breaks_from w m new (k + 1) ds) e).1 is)

  at_index : breaks_from w m new 0 old ≡ [] → (i : ℕ) (d : Declared) → slice_get old i ≡ Some d → declared_breaks w m new i d ≡ []
  at_index e i d is =
      let n : 0 + i ≡ i = omega arith in
      subst (λ n. declared_breaks w m new n d ≡ []) n (declared_none 0 old i d e is)

  pub matched : breaks_from w m new 0 old ≡ [] → (i j : ℕ) → Matches m i j → (d : Declared) → slice_get old i ≡ Some d → body_breaks w m i d.body (body_at new j) ≡ []
  matched e i j is d at = subst (λ o. body_breaks w m i d.body (body_if new o) ≡ []) is (at_index e i d at)

  fits : breaks_from w m new 0 old ≡ [] → Fits
  unfolding Fits
  fits e i j is = by_found (slice_get old i) refl
    where
      by_found : (o : Option Declared) → slice_get old i ≡ o → BodyFit (body_of o) (body_at new j)
      by_found None at = (tt, tt, tt)
      by_found (Some d) at = fits_body i d.body (body_at new j) (matched e i j is d at)

  Tables : Type 0
  Tables = (i j : ℕ) → Matches m i j → TableFit (body_at old i) (body_at new j)

  tables : Fits → breaks_from w m new 0 old ≡ [] → Tables
  unfolding Tables
  tables h e i j is = by_found (slice_get old i) refl
    where
      by_found : (o : Option Declared) → slice_get old i ≡ o → TableFit (body_of o) (body_at new j)
      by_found None at n = no_field_fit (field_in (fields_in (body_at new j)) n)
      by_found (Some d) at n = tables_body h i d.body (body_at new j) (matched e i j is d at) n

  is_there : breaks_from w m new 0 old ≡ [] → (i : ℕ) (d : Declared) → slice_get old i ≡ Some d → (j : ℕ) × Matches m i j
  is_there e i d at = by_match (match_at m i) refl (at_index e i d at)
    where
      by_match : (o : Option ℕ) → match_at m i ≡ o → body_breaks w m i d.body (body_if new o) ≡ [] → (j : ℕ) × (match_at m i ≡ Some j)
      by_match None is x = absurd cc
      by_match (Some j) is x = (j, is)

  stay : breaks_from w m new 0 old ≡ [] → (i j : ℕ) → Matches m i j → (b c : Body) → body_at old i ≡ Some b → body_at new j ≡ Some c → names_stay b c ≡ true
  stay e i j is b c at to = by_found (slice_get old i) refl at
    where
      breaks_if : Option Body → Option Body → List Break
      breaks_if None o = []
      breaks_if (Some x) o = body_breaks w m i x o

      by_found : (o : Option Declared) → slice_get old i ≡ o → body_of o ≡ Some b → names_stay b c ≡ true
      by_found None at x = absurd cc
      by_found (Some d) at x =
          names_to i b c (subst (λ o. breaks_if o (Some c) ≡ []) x (subst (λ o. body_breaks w m i d.body o ≡ []) to (matched e i j is d at)))

  -- ---- calls

  item_near : Fits → (b c : Base) (s : SeenItems) → same_base m b c ≡ true → (k : ℕ) → Near (item_found old b s k) (item_found new c s k)
  item_near h b c s e k = by_test (nat_lt k s.count)
    where
      by_test : (t : Bool) → Near (if t then value_found old b s.bytes (k * stride old b) else absent) (if t then value_found new c s.bytes (k * stride new c) else absent)
      by_test true = item_value_near h b c e s.bytes k
      by_test false = inr refl

  union_item_near : Fits → (i j : ℕ) → Matches m i j → (s : SeenUnions) (k : ℕ) → Near (union_item_found old i s k) (union_item_found new j s k)
  union_item_near h i j e s k = by_test (nat_lt k s.count)
    where
      by_test : (t : Bool) → Near (if t then union_found old (union_in (body_at old i)) (slice_index s.tags k) s.references (k * 4) else absent) (if t then union_found new (union_in (body_at new j)) (slice_index s.tags k) s.references (k * 4) else absent)
      by_test true = union_near h (union_in (body_at old i)) (union_in (body_at new j)) (union_fit h i j e) (slice_index s.tags k) s.references (k * 4)
      by_test false = inr refl

  counted_near : Fits → (a b : Base) → same_base m a b ≡ true → (p q : Option ℕ) → p ≡ q → (S : List ℕ) (n : ℕ) → Near (counted_found old p a S n) (counted_found new q b S n)
  counted_near h a b e p q same S n = subst (λ r. Near (counted_found old p a S n) (counted_found new r b S n)) same (by_count p)
    where
      by_count : (p : Option ℕ) → Near (counted_found old p a S n) (counted_found new p b S n)
      by_count None = value_near h a b e S n
      by_count (Some count) = inr (refl, e)

  part_near : Fits → (o p : Option StructField) → PartFit o p → (S : List ℕ) (n : ℕ) → Near (part_found old o S n) (part_found new p S n)
  part_near h None p x S n = inr tt
  part_near h (Some f) None x S n = absurd x
  part_near h (Some f) (Some g) x S n = counted_near h f.base g.base x.0 f.count g.count x.1 S n

  struct_part_near : Fits → (o p : Option Struct) → StructFit o p → (S : List ℕ) (n : ℕ) → Near (part_found old (part_in (parts_of o) n) S n) (part_found new (part_in (parts_of p) n) S n)
  struct_part_near h None p x S n = inr tt
  struct_part_near h (Some s) None x S n = absurd x
  struct_part_near h (Some s) (Some t) x S n = part_near h (part_in s.fields.items n) (part_in t.fields.items n) (x.1 n) S n

  table_called_near : Tables → (i j : ℕ) → Matches m i j → (s : Seen) (c : Call) → Near (table_called old i s c) (table_called new j s c)
  unfolding Tables
  table_called_near h i j e s (field n) = (h i j e n s).0
  table_called_near h i j e s (buffer n) = (h i j e n s).1
  table_called_near h i j e s (part n) = inr tt
  table_called_near h i j e s (item n) = inr tt

  struct_called_near : Fits → (i j : ℕ) → Matches m i j → (S : List ℕ) (c : Call) → Near (struct_called old i S c) (struct_called new j S c)
  struct_called_near h i j e S (part n) = struct_part_near h (struct_in (body_at old i)) (struct_in (body_at new j)) (struct_fit h i j e) S n
  struct_called_near h i j e S (field n) = inr tt
  struct_called_near h i j e S (buffer n) = inr tt
  struct_called_near h i j e S (item n) = inr tt

  items_called_near : Fits → (b c : Base) → same_base m b c ≡ true → (s : SeenItems) (x : Call) → Near (items_called old b s x) (items_called new c s x)
  items_called_near h b c e s (item k) = item_near h b c s e k
  items_called_near h b c e s (field n) = inr tt
  items_called_near h b c e s (buffer n) = inr tt
  items_called_near h b c e s (part n) = inr tt

  unions_called_near : Fits → (i j : ℕ) → Matches m i j → (s : SeenUnions) (c : Call) → Near (unions_called old i s c) (unions_called new j s c)
  unions_called_near h i j e s (item k) = union_item_near h i j e s k
  unions_called_near h i j e s (field n) = inr tt
  unions_called_near h i j e s (buffer n) = inr tt
  unions_called_near h i j e s (part n) = inr tt

  called_near : Fits → Tables → (f g : Found) → Sim f g → (c : Call) → Near (called old f c) (called new g c)
  called_near u h (table i x) (table j y) s c =
      subst (λ z. Near (table_called old i x c) (table_called new j z c)) s.0 (table_called_near h i j s.1 x c)
  called_near u h (table i x) g s c = absurd s
  called_near u h (structure i x) (structure j y) s c =
      subst (λ z. Near (struct_called old i x c) (struct_called new j z c)) s.0 (struct_called_near u i j s.1 x c)
  called_near u h (structure i x) g s c = absurd s
  called_near u h (member n x) (member k y) s c = called_near u h x y s.1 c
  called_near u h (member n x) g s c = absurd s
  called_near u h (items b x) (items d y) s c =
      subst (λ z. Near (items_called old b x c) (items_called new d z c)) s.0 (items_called_near u b d s.1 x c)
  called_near u h (items b x) g s c = absurd s
  called_near u h (unions i x) (unions j y) s c =
      subst (λ z. Near (unions_called old i x c) (unions_called new j z c)) s.0 (unions_called_near u i j s.1 x c)
  called_near u h (unions i x) g s c = absurd s
  called_near u h f g s c = inr tt

  answers_same : Fits → Tables → (calls : List Call) (f g : Found) → Near f g → SameAnswers w old new f g calls
  answers_same u h [] f g (inl e) = inl e
  answers_same u h [] f g (inr s) = inr (sim_same f g s)
  answers_same u h (c ∷ calls) f g (inl e) = inl (or_left (is_excused w f g) (is_excused_within w old new (called old f c) (called new g c) calls) e)
  answers_same u h (c ∷ calls) f g (inr s) = later (answers_same u h calls (called old f c) (called new g c) (called_near u h f g s c))
    where
      later : SameAnswers w old new (called old f c) (called new g c) calls → SameAnswers w old new f g (c ∷ calls)
      later (inl e) = inl (or_right (is_excused w f g) (is_excused_within w old new (called old f c) (called new g c) calls) e)
      later (inr x) = inr x

  read_alike : breaks_from w m new 0 old ≡ [] → ReadAlike w m old new
  read_alike e i j is S f calls =
      let u = fits e in
      answers_same u (tables u e) calls (root i S f) (root j S f) (inr (table_sim i j is (table_at S f)))

  root_alike : breaks_from w m new 0 old ≡ [] → (o p : Option ℕ) → root_change m o p ≡ None → (S : List ℕ) (calls : List Call) → SameAnswers w old new (root_found o S) (root_found p S) calls
  root_alike e None p c S calls =
      let u = fits e in answers_same u (tables u e) calls unknown (root_found p S) (inr tt)
  root_alike e (Some i) None c S calls = absurd cc
  root_alike e (Some i) (Some j) c S calls =
      read_alike e i j (is_index_some _ j (none_if_not (are_matched m i j) change.RootChanged c)) S 0 calls

-- ---- file identifiers

pass_alike : (w : Way) (b : Bool) → PassAlike w b b
pass_alike way.Both b = refl
pass_alike way.Backward b = λ e. e
pass_alike way.Forward b = λ e. e

identified : (w : Way) (a b : Option (Vec ℕ Global)) → identifier_change w a b ≡ None → (S : List ℕ) → PassAlike w (is_identified a S) (is_identified b S)
identified w None None e S = pass_alike w true
identified way.Both None (Some b) e S = absurd cc
identified way.Backward None (Some b) e S = absurd cc
identified way.Forward None (Some b) e S = λ x. refl
identified way.Both (Some a) None e S = absurd cc
identified way.Backward (Some a) None e S = λ x. refl
identified way.Forward (Some a) None e S = absurd cc
identified w (Some a) (Some b) e S =
    subst (λ x. PassAlike w (is_identified (Some a) S) (bytes_eq (take 4 (drop 4 S)) x))
    (same_bytes a.items b.items (none_if_not (bytes_eq a.items b.items) change.IdentifierChanged e))
    (pass_alike w (is_identified (Some a) S))

pub conforming : (w : Way) (m : List (Option ℕ)) (old new : Schema) → breaks_by w m old new ≡ [] → ConformBy w m old new
conforming w m old new e =
    let listed = breaks_from w m new.declarations.items 0 old.declarations.items in
    let root_breaks = noted place.Root (root_change m old.statements.root new.statements.root) in
    let identifier_breaks = noted place.Identifier (identifier_change w old.statements.identifier new.statements.identifier) in
    let first = both_nothing (listed ++ root_breaks) identifier_breaks e in
    let rest = both_nothing listed root_breaks first.0 in
    let none = rest.0 in
    let ds = old.declarations.items in
    let es = new.declarations.items in
    record {
      there = is_there w m ds es none;
      stay = stay w m ds es none;
      alike = read_alike w m ds es none;
      open_alike = root_alike w m ds es none old.statements.root new.statements.root (noted_none place.Root (root_change m old.statements.root new.statements.root) rest.1);
      identified = identified w old.statements.identifier new.statements.identifier (noted_none place.Identifier (identifier_change w old.statements.identifier new.statements.identifier) first.1);
    }
