-- Where nothing breaks, what both schemas have shows the same.
use Rattle.std.proofs.Common.{◌≡◌, ℕ, ◌-◌, Bool, true, false, List, [], ◌∷◌, ◌++◌, map, refl, sym, ap, subst, ◌∙◌, Option, Some, None, option_map, inl, inr}
use Rattle.std.specs.Prelude.{◌==◌, ◌&&◌, ◌||◌, not, if◌then◌else◌, nat_lt}
use Rattle.std.specs.List.{list_all, AllByRecursion}
use Rattle.std.proofs.lemmas.Bool.{eqb-true}
use Rattle.std.proofs.lemmas.Option.{same_Some}
use Rattle.planus_dump.specs.Shapes.{EnumShape}
use Rattle.planus_dump.specs.declared.schemas.Number as numbers
use Rattle.planus_inspect.specs.Shown.{shown_name, bits_of, scalar_number, field_shown, member_shown, union_shown, value_shown, enum_shown, field_in_struct, size_shown}
use Rattle.planus_schema.specs.declared.number.Number.{Number}
use Rattle.planus_schema.specs.declared.scalar.Scalar.{Scalar}
use Rattle.planus_schema.specs.declared.schema.Base.{Base}
use Rattle.planus_schema.specs.declared.schema.Base.TheVariants as base
use Rattle.planus_schema.specs.declared.schema.Body.{Body}
use Rattle.planus_schema.specs.declared.schema.Body.TheVariants as body
use Rattle.planus_schema.specs.declared.schema.Declared.{Declared}
use Rattle.planus_schema.specs.declared.schema.EnumValue.{EnumValue}
use Rattle.planus_schema.specs.declared.schema.StructField.{StructField}
use Rattle.planus_schema.specs.declared.schema.TableField.{TableField}
use Rattle.planus_schema.specs.declared.schema.UnionMember.{UnionMember}
use Rattle.planus_schema.specs.Numbers.{scalar_size}
use Rattle.planus_schema.specs.Slots.{is_union_base, is_union, slots_taken, are_apart}
use Rattle.planus_resolve.specs.Schemas.{IsBody}
use Rattle.planus_resolve.specs.Sound.{RefersBody}
use Rattle.planus_conform.specs.declared.breaks.Change.TheVariants as change
use Rattle.planus_conform.specs.declared.breaks.Place.TheVariants as place
use Rattle.planus_conform.specs.declared.breaks.Way.TheVariants as way
use Rattle.planus_conform.specs.Values.{member_in}
use Rattle.planus_conform.specs.Reads.{field_in, part_in}
use Rattle.planus_conform.specs.Matching.{match_at}
use Rattle.planus_conform.specs.Types.{scalar_code, same_base, same_count, same_part, same_truth, same_type}
use Rattle.planus_conform.specs.Defaults.{same_default}
use Rattle.planus_conform.specs.Breaks.{meets_old, meets_new, noted, change_if, is_moved, may_require, same_nested, kept_change, change_from, field_change, field_breaks, is_part_moved, part_change_to, part_change, part_breaks, value_breaks, added_values, enum_change, breaks_to}
use Rattle.planus_conform.specs.ShownAlike.{is_opened_alike, is_read_too, is_shared, shared_fields, is_part, shared_parts, shared_in, shared_parts_in, field_label, part_label, value_label, member_label, IsLabelledAlike}
use Rattle.planus_conform.proofs.Parts.{both_true, not_true, both_nothing, noted_none, is_index_some, same_truths, same_counts, same_scalars, no_change, no_enum_change, none_if_not}
use Rattle.planus_conform.proofs.Alike.{MemberFit, unions_fit}
use Rattle.planus_conform.proofs.NoBreaks.{IsIn, Once, found_itself, slots_once, SizedBelow, distances_once}
use Rattle.planus_conform.proofs.EventsByShapes.{variant_in}
use Rattle.planus_conform.proofs.Related.{PartAlike, PartsAlike, MembersAlike, NestedAlike, FieldAlike, FieldsAlike}

module _ (m : List (Option ℕ)) where
  -- ---- fields of tables

  -- a shared field, and that of its slot
  record Held (gs : List TableField) (f : TableField) : Type 0 where
    other : TableField
    found : field_in gs f.slot ≡ Some other
    read : f.deprecated ≡ false
    read_too : other.deprecated ≡ false
    opened : is_opened_alike f.nested other.nested ≡ true
    kept : kept_change way.Both m f other ≡ None

  one_held : (gs : List TableField) (f : TableField) → is_shared gs f ≡ true → field_change way.Both m gs f ≡ None → Held gs f
  one_held gs f s e =
      let parts = both_true (not f.deprecated) (is_read_too f (field_in gs f.slot)) s in
      let read = not_true f.deprecated parts.0 in
      by_moved read parts.1 (is_moved gs f)
      (subst (λ b. (if b then None else if is_moved gs f then Some change.Moved else change_from way.Both m f (field_in gs f.slot)) ≡ None) read e)
    where
      by_other : f.deprecated ≡ false → (g : TableField) → field_in gs f.slot ≡ Some g → is_read_too f (Some g) ≡ true → change_from way.Both m f (Some g) ≡ None → Held gs f
      by_other read g found s c =
          let parts = both_true (not g.deprecated) (is_opened_alike f.nested g.nested) s in
          let read_too = not_true g.deprecated parts.0 in
          record {
            other = g;
            found = found;
            read = read;
            read_too = read_too;
            opened = parts.1;
            kept = subst (λ b. (if b then change_if (f.required && meets_new way.Both) change.RequiredDeprecated else kept_change way.Both m f g) ≡ None) read_too c;
          }

      by_found : f.deprecated ≡ false → (o : Option TableField) → field_in gs f.slot ≡ o → is_read_too f o ≡ true → change_from way.Both m f o ≡ None → Held gs f
      by_found read None found s c = absurd cc
      by_found read (Some g) found s c = by_other read g found s c

      by_moved : f.deprecated ≡ false → is_read_too f (field_in gs f.slot) ≡ true → (b : Bool) → (if b then Some change.Moved else change_from way.Both m f (field_in gs f.slot)) ≡ None → Held gs f
      by_moved read s true e = absurd cc
      by_moved read s false e = by_found read (field_in gs f.slot) refl s e

  held : (k : ℕ) (gs fs : List TableField) → field_breaks way.Both m k gs fs ≡ [] → AllByRecursion (Held gs) (shared_fields gs fs)
  held k gs [] e = tt
  held k gs (f ∷ fs) e =
      let parts = both_nothing (noted (place.Field k f.slot) (field_change way.Both m gs f)) (field_breaks way.Both m k gs fs) e in
      by_test (noted_none (place.Field k f.slot) (field_change way.Both m gs f) parts.0) (held k gs fs parts.1) (is_shared gs f) refl
    where
      by_test : field_change way.Both m gs f ≡ None → AllByRecursion (Held gs) (shared_fields gs fs) → (b : Bool) → is_shared gs f ≡ b → AllByRecursion (Held gs) (if b then f ∷ shared_fields gs fs else shared_fields gs fs)
      by_test none rest true s = (one_held gs f s none, rest)
      by_test none rest false s = rest

  abbrev IsFound : List TableField → TableField → Type 0
  IsFound gs g = field_in gs g.slot ≡ Some g

  each_found : (gs : List TableField) → are_apart (slots_taken gs) ≡ true → (fs xs : List TableField) → ((g : TableField) → IsIn g xs → IsIn g gs) → AllByRecursion (IsFound gs) (shared_fields fs xs)
  each_found gs s fs [] within = tt
  each_found gs s fs (x ∷ xs) within =
      by_test (found_itself (λ g. g.slot) field_in (λ y ys n. refl) gs (slots_once gs s) x (within x (inl refl)))
      (each_found gs s fs xs (λ g i. within g (inr i))) (is_shared fs x)
    where
      by_test : IsFound gs x → AllByRecursion (IsFound gs) (shared_fields fs xs) → (b : Bool) → AllByRecursion (IsFound gs) (if b then x ∷ shared_fields fs xs else shared_fields fs xs)
      by_test first rest true = (first, rest)
      by_test first rest false = rest

  union_kinds : (x y : Base) → same_base m x y ≡ true → is_union_base x ≡ is_union_base y
  union_kinds (base.Scalar s) (base.Scalar t) e = refl
  union_kinds base.Text base.Text e = refl
  union_kinds (base.Enum i) (base.Enum j) e = refl
  union_kinds (base.Struct i) (base.Struct j) e = refl
  union_kinds (base.Table i) (base.Table j) e = refl
  union_kinds (base.Union i) (base.Union j) e = refl
  union_kinds x y e = absurd cc

  nested_alike : (o p : Option ℕ) → is_opened_alike o p ≡ true → same_nested m o p ≡ true → NestedAlike m o p
  nested_alike None None s e = tt
  nested_alike (Some i) (Some j) s e = is_index_some (match_at m i) j e
  nested_alike o p s e = absurd cc

  field_alike : (f g : TableField) → f.deprecated ≡ false → g.deprecated ≡ false → is_opened_alike f.nested g.nested ≡ true → kept_change way.Both m f g ≡ None
      → f.slot ≡ g.slot → f.name.items ≡ g.name.items → FieldAlike m (field_shown f) (field_shown g)
  field_alike f g read read_too opened e slot name =
      let kept =
      no_change change.TypeChanged change.RequiredChanged change.DefaultChanged change.NestedChanged
      (same_type m f.kind g.kind) (may_require way.Both f.required g.required) (f.required || g.required || same_default f g) (same_nested m f.nested g.nested) e in
      let parts = both_true (same_truth f.kind.vector g.kind.vector) (same_base m f.kind.base g.kind.base) kept.0 in
      let deprecated : f.deprecated ≡ g.deprecated = read ∙ sym read_too in
      record {
        type_x = f.kind;
        type_y = g.kind;
        root_x = f.nested;
        root_y = g.nested;
        x_is = refl;
        y_is = refl;
        same = kept.0;
        nested = nested_alike f.nested g.nested opened kept.3;
        slot =
            ap (λ b. if b then f.slot - 1 else f.slot) (union_kinds f.kind.base g.kind.base parts.1)
            ∙ ap (λ n. if is_union g.kind then n - 1 else n) slot;
        name = ap shown_name name;
        deprecated = deprecated;
        required =
            ap (λ b. b && not f.deprecated) (same_truths f.required g.required kept.1)
            ∙ ap (λ b. g.required && not b) deprecated;
      }

  held_alike : (gs : List TableField) (f g : TableField) → Held gs f → IsFound gs g → field_label f ≡ field_label g → FieldAlike m (field_shown f) (field_shown g)
  held_alike gs f g h found label =
      let slot : f.slot ≡ g.slot = ap (λ p. p.0) label in
      let same : h.other ≡ g = same_Some h.other g (sym h.found ∙ ap (field_in gs) slot ∙ found) in
      field_alike f g h.read (subst (λ z. z.deprecated ≡ false) same h.read_too)
      (subst (λ z. is_opened_alike f.nested z.nested ≡ true) same h.opened)
      (subst (λ z. kept_change way.Both m f z ≡ None) same h.kept) slot (ap (λ p. p.1) label)

  fields_alike : (gs xs ys : List TableField) → map field_label xs ≡ map field_label ys → AllByRecursion (Held gs) xs → AllByRecursion (IsFound gs) ys → FieldsAlike m (map field_shown xs) (map field_shown ys)
  fields_alike gs [] [] e h a = tt
  fields_alike gs [] (y ∷ ys) e h a = absurd cc
  fields_alike gs (x ∷ xs) [] e h a = absurd cc
  fields_alike gs (x ∷ xs) (y ∷ ys) e h a =
      let first : field_label x ≡ field_label y = cc in
      let rest : map field_label xs ≡ map field_label ys = cc in
      (held_alike gs x y h.0 a.0 first, fields_alike gs xs ys rest h.1 a.1)

  pub table_alike : (k : ℕ) (b c : Body) → breaks_to way.Both m k b c ≡ [] → IsLabelledAlike b c → IsBody c → FieldsAlike m (map field_shown (shared_in (Some c) b)) (map field_shown (shared_in (Some b) c))
  table_alike k (body.Table t) (body.Table u) e l s =
      let apart = both_true (list_all (λ n. nat_lt n _) (slots_taken u.fields.items)) (are_apart (slots_taken u.fields.items)) s.slots.whole in
      fields_alike u.fields.items _ _ l (held k u.fields.items t.fields.items e)
      (each_found u.fields.items apart.1 t.fields.items u.fields.items (λ g i. i))
  table_alike k (body.Struct t) (body.Struct u) e l s = tt
  table_alike k (body.Enum t) (body.Enum u) e l s = tt
  table_alike k (body.Union t) (body.Union u) e l s = tt
  table_alike k b c e l s = absurd cc

  -- ---- fields of structs

  -- a field, and that of its distance
  record PartHeld (gs : List StructField) (f : StructField) : Type 0 where
    other : StructField
    found : part_in gs f.distance ≡ Some other
    same : same_part m f other ≡ true

  one_part_held : (gs : List StructField) (f : StructField) → part_change m gs f ≡ None → PartHeld gs f
  one_part_held gs f e = by_moved (is_part_moved gs f) e
    where
      by_found : (o : Option StructField) → part_in gs f.distance ≡ o → part_change_to m f o ≡ None → PartHeld gs f
      by_found None found c = absurd cc
      by_found (Some g) found c =
          record { other = g; found = found; same = none_if_not (same_part m f g) change.TypeChanged c }

      by_moved : (b : Bool) → (if b then Some change.Moved else part_change_to m f (part_in gs f.distance)) ≡ None → PartHeld gs f
      by_moved true e = absurd cc
      by_moved false e = by_found (part_in gs f.distance) refl e

  parts_held : (k : ℕ) (gs fs : List StructField) → part_breaks m k gs fs ≡ [] → AllByRecursion (PartHeld gs) (shared_parts gs fs)
  parts_held k gs [] e = tt
  parts_held k gs (f ∷ fs) e =
      let parts = both_nothing (noted (place.Part k f.distance) (part_change m gs f)) (part_breaks m k gs fs) e in
      by_test (noted_none (place.Part k f.distance) (part_change m gs f) parts.0) (parts_held k gs fs parts.1) (is_part (part_in gs f.distance))
    where
      by_test : part_change m gs f ≡ None → AllByRecursion (PartHeld gs) (shared_parts gs fs) → (b : Bool) → AllByRecursion (PartHeld gs) (if b then f ∷ shared_parts gs fs else shared_parts gs fs)
      by_test none rest true = (one_part_held gs f none, rest)
      by_test none rest false = rest

  abbrev IsPartFound : List StructField → StructField → Type 0
  IsPartFound gs g = part_in gs g.distance ≡ Some g

  each_part_found : (gs : List StructField) → Once (λ g. g.distance) gs → (fs xs : List StructField) → ((g : StructField) → IsIn g xs → IsIn g gs) → AllByRecursion (IsPartFound gs) (shared_parts fs xs)
  each_part_found gs o fs [] within = tt
  each_part_found gs o fs (x ∷ xs) within =
      by_test (found_itself (λ g. g.distance) part_in (λ y ys n. refl) gs o x (within x (inl refl)))
      (each_part_found gs o fs xs (λ g i. within g (inr i))) (is_part (part_in fs x.distance))
    where
      by_test : IsPartFound gs x → AllByRecursion (IsPartFound gs) (shared_parts fs xs) → (b : Bool) → AllByRecursion (IsPartFound gs) (if b then x ∷ shared_parts fs xs else shared_parts fs xs)
      by_test first rest true = (first, rest)
      by_test first rest false = rest

  part_alike : (gs : List StructField) (f g : StructField) → PartHeld gs f → IsPartFound gs g → part_label f ≡ part_label g → PartAlike m (field_in_struct f) (field_in_struct g)
  part_alike gs f g h found label =
      let distance : f.distance ≡ g.distance = ap (λ p. p.0) label in
      let is : h.other ≡ g = same_Some h.other g (sym h.found ∙ ap (part_in gs) distance ∙ found) in
      let parts = both_true (same_base m f.base g.base) (same_count f.count g.count) (subst (λ z. same_part m f z ≡ true) is h.same) in
      record {
        base_x = f.base;
        base_y = g.base;
        x_is = refl;
        y_is = refl;
        same = parts.0;
        distance = distance;
        name = ap (λ p. shown_name p.1) label;
        count = same_counts f.count g.count parts.1;
      }

  parts_alike : (gs xs ys : List StructField) → map part_label xs ≡ map part_label ys → AllByRecursion (PartHeld gs) xs → AllByRecursion (IsPartFound gs) ys → PartsAlike m (map field_in_struct xs) (map field_in_struct ys)
  parts_alike gs [] [] e h a = tt
  parts_alike gs [] (y ∷ ys) e h a = absurd cc
  parts_alike gs (x ∷ xs) [] e h a = absurd cc
  parts_alike gs (x ∷ xs) (y ∷ ys) e h a =
      let first : part_label x ≡ part_label y = cc in
      let rest : map part_label xs ≡ map part_label ys = cc in
      (part_alike gs x y h.0 a.0 first, parts_alike gs xs ys rest h.1 a.1)

  pub struct_alike : (bs : List Body) (n k : ℕ) → SizedBelow bs n → (b c : Body) → breaks_to way.Both m k b c ≡ [] → IsLabelledAlike b c → IsBody c → RefersBody bs n c
      → (size_shown b ≡ size_shown c) × PartsAlike m (map field_in_struct (shared_parts_in (Some c) b)) (map field_in_struct (shared_parts_in (Some b) c))
  struct_alike bs n k h (body.Struct s) (body.Struct t) e l is r =
      let parts = both_nothing (part_breaks m k t.fields.items s.fields.items) (noted (place.Declaration k) (change_if (not (s.size == t.size)) change.SizeChanged)) e in
      let once : Once (λ g. g.distance) t.fields.items = distances_once bs n 0 is.places.end t.fields.items h r is.places.laid in (
        eqb-true s.size t.size (none_if_not (s.size == t.size) change.SizeChanged (noted_none (place.Declaration k) (change_if (not (s.size == t.size)) change.SizeChanged) parts.1)),
        parts_alike t.fields.items _ _ l (parts_held k t.fields.items s.fields.items parts.0)
            (each_part_found t.fields.items once s.fields.items t.fields.items (λ g i. i)),
      )
  struct_alike bs n k h (body.Table t) (body.Table u) e l is r = (refl, tt)
  struct_alike bs n k h (body.Enum t) (body.Enum u) e l is r = (refl, tt)
  struct_alike bs n k h (body.Union t) (body.Union u) e l is r = (refl, tt)
  struct_alike bs n k h b c e l is r = absurd cc

  -- ---- enums

  abbrev value_by : Scalar → Number × List ℕ → ℕ × List ℕ
  value_by s p = (bits_of (scalar_size s) p.0, shown_name p.1)

  values_are : (s : Scalar) (vs : List EnumValue) → map (value_shown s) vs ≡ map (value_by s) (map value_label vs)
  values_are s [] = refl
  values_are s (v ∷ vs) = ap (λ r. value_shown s v ∷ r) (values_are s vs)

  values_alike : (s : Scalar) (vs us : List EnumValue) → map value_label vs ≡ map value_label us → map (value_shown s) vs ≡ map (value_shown s) us
  values_alike s vs us e = values_are s vs ∙ ap (map (value_by s)) e ∙ sym (values_are s us)

  abbrev enum_made : numbers.Number → Bool → List (ℕ × List ℕ) → EnumShape
  enum_made n flags vs = record { number = n; flags = flags; values = vs }

  pub enum_alike : (d e : Declared) (k : ℕ) (b c : Body) → breaks_to way.Both m k b c ≡ [] → IsLabelledAlike b c → enum_shown (record d { body = b }) ≡ enum_shown (record e { body = c })
  enum_alike d e k (body.Enum x) (body.Enum y) none l =
      let kept = value_breaks (meets_old way.Both && not x.flags) k y.values.items x.values.items in
      let added = added_values (meets_new way.Both && not x.flags) k x.values.items y.values.items in
      let first = both_nothing (noted (place.Declaration k) (enum_change x y) ++ kept) added none in
      let rest = both_nothing (noted (place.Declaration k) (enum_change x y)) kept first.0 in
      let parts = no_enum_change change.NumberTypeChanged change.FlagsChanged (scalar_code x.scalar == scalar_code y.scalar) (same_truth x.flags y.flags) (noted_none (place.Declaration k) (enum_change x y) rest.0) in
      ap (λ s. enum_made (scalar_number s) x.flags (map (value_shown s) x.values.items)) (same_scalars x.scalar y.scalar parts.0)
      ∙ ap (λ f. enum_made (scalar_number y.scalar) f (map (value_shown y.scalar) x.values.items)) (same_truths x.flags y.flags parts.1)
      ∙ ap (enum_made (scalar_number y.scalar) y.flags) (values_alike y.scalar x.values.items y.values.items l)
  enum_alike d e k (body.Table t) (body.Table u) none l = refl
  enum_alike d e k (body.Struct t) (body.Struct u) none l = refl
  enum_alike d e k (body.Union t) (body.Union u) none l = refl
  enum_alike d e k b c none l = absurd cc

  -- ---- unions

  abbrev name_in : List (ℕ × List ℕ) → ℕ → Option (List ℕ)
  name_in [] tag = None
  name_in (p ∷ ps) tag = if p.0 == tag then Some p.1 else name_in ps tag

  abbrev name_of : Option UnionMember → Option (List ℕ)
  name_of None = None
  name_of (Some a) = Some a.name.items

  names_are : (xs : List UnionMember) (tag : ℕ) → name_of (member_in xs tag) ≡ name_in (map member_label xs) tag
  names_are [] tag = refl
  names_are (a ∷ xs) tag = by_test (names_are xs tag) (a.tag == tag)
    where
      by_test : name_of (member_in xs tag) ≡ name_in (map member_label xs) tag → (b : Bool) → name_of (if b then Some a else member_in xs tag) ≡ (if b then Some a.name.items else name_in (map member_label xs) tag)
      by_test rest true = refl
      by_test rest false = rest

  member_is : (xs : List UnionMember) (tag : ℕ) → variant_in (map member_shown xs) tag ≡ option_map member_shown (member_in xs tag)
  member_is [] tag = refl
  member_is (a ∷ xs) tag = by_test (member_is xs tag) (a.tag == tag)
    where
      by_test : variant_in (map member_shown xs) tag ≡ option_map member_shown (member_in xs tag) → (b : Bool) → (if b then Some (member_shown a) else variant_in (map member_shown xs) tag) ≡ option_map member_shown (if b then Some a else member_in xs tag)
      by_test rest true = refl
      by_test rest false = rest

  module _ (old new : List Declared) where
    member_alike : (o p : Option UnionMember) → MemberFit way.Both m old new o p → name_of o ≡ name_of p → MembersAlike m (option_map member_shown o) (option_map member_shown p)
    member_alike None None h e = tt
    member_alike None (Some b) h e = absurd cc
    member_alike (Some a) None h e = absurd cc
    member_alike (Some a) (Some b) h e = record {
      base_x = a.base;
      base_y = b.base;
      x_is = refl;
      y_is = refl;
      same = h;
      name = ap shown_name (same_Some a.name.items b.name.items e);
    }

    pub union_alike : (d e : Declared) (k : ℕ) (b c : Body) → breaks_to way.Both m k b c ≡ [] → IsLabelledAlike b c → (tag : ℕ)
        → MembersAlike m (variant_in (union_shown (record d { body = b })) tag) (variant_in (union_shown (record e { body = c })) tag)
    union_alike d e k (body.Union u) (body.Union v) none l tag =
        subst (λ o. MembersAlike m o (variant_in (map member_shown v.members.items) tag)) (sym (member_is u.members.items tag))
        (subst (λ o. MembersAlike m (option_map member_shown (member_in u.members.items tag)) o) (sym (member_is v.members.items tag))
        (member_alike (member_in u.members.items tag) (member_in v.members.items tag)
        (unions_fit way.Both m old new k u v none tag).0
        (names_are u.members.items tag ∙ ap (λ ps. name_in ps tag) l ∙ sym (names_are v.members.items tag))))
    union_alike d e k (body.Table t) (body.Table u) none l tag = tt
    union_alike d e k (body.Struct t) (body.Struct u) none l tag = tt
    union_alike d e k (body.Enum t) (body.Enum u) none l tag = tt
    union_alike d e k b c none l tag = absurd cc
