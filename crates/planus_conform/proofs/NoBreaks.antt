-- Nothing breaks where nothing changed, or fields are added.
use Rattle.std.proofs.Common.{◌≡◌, ℕ, zero, suc, ◌+◌, ◌-◌, ◌*◌, ◌<◌, ◌≤◌, Bool, true, false, cond, List, [], ◌∷◌, ◌++◌, length, map, slice_get, refl, sym, ap, subst, ◌∙◌, Option, Some, None, option_map, ◌⊎◌, inl, inr, arith}
use Rattle.std.specs.Prelude.{◌==◌, ◌&&◌, ◌||◌, not, if◌then◌else◌, nat_eq, nat_lt}
use Rattle.std.specs.List.{list_any, list_all, prefix_len, AllByRecursion, Contains, IsDistinct}
use Rattle.std.specs.Str.{bytes_eq}
use Rattle.std.proofs.lemmas.Bool.{eq-eqb, ne_eqb, lt-ltb}
use Rattle.std.proofs.Math.Nat.{mul-le-mul_right}
use Rattle.std.proofs.lemmas.Option.{slice_get-map, slice_get_within}
use Rattle.std.proofs.lemmas.Slice.Eq.{bytes_eq-Decides}
use Rattle.planus_schema.specs.declared.measure.Measure.{Measure}
use Rattle.planus_schema.specs.declared.scalar.Scalar.{Scalar}
use Rattle.planus_schema.specs.declared.scalar.Scalar.TheVariants as scalar
use Rattle.planus_schema.specs.declared.schema.Base.{Base}
use Rattle.planus_schema.specs.declared.schema.Base.TheVariants as base
use Rattle.planus_schema.specs.declared.schema.Body.{Body}
use Rattle.planus_schema.specs.declared.schema.Body.TheVariants as body
use Rattle.planus_schema.specs.declared.schema.Declared.{Declared}
use Rattle.planus_schema.specs.declared.schema.Enum.{Enum}
use Rattle.planus_schema.specs.declared.schema.EnumValue.{EnumValue}
use Rattle.planus_schema.specs.declared.schema.FieldType.{FieldType}
use Rattle.planus_schema.specs.declared.schema.Struct.{Struct}
use Rattle.planus_schema.specs.declared.schema.StructField.{StructField}
use Rattle.planus_schema.specs.declared.schema.TableField.{TableField}
use Rattle.planus_schema.specs.declared.schema.UnionMember.{UnionMember}
use Rattle.planus_schema.specs.Layouts.{measure_in, measure_of_body, body_in, Laid}
use Rattle.planus_schema.specs.Numbers.{scalar_size}
use Rattle.planus_schema.specs.Slots.{is_union, slots_taken, are_apart, are_whole}
use Rattle.planus_resolve.specs.Schemas.{IsBody}
use Rattle.planus_resolve.specs.Structs.{items_in}
use Rattle.planus_resolve.specs.Sound.{Refers, RefersMember, IsNested, RefersField, IsBelow, IsCount, RefersBefore, RefersBody, AreSound}
use Rattle.planus_resolve.specs.Tables.{type_name, all_names}
use Rattle.planus_resolve.specs.Unions.{tag_in}
use Rattle.planus_conform.specs.declared.breaks.Change.{Change}
use Rattle.planus_conform.specs.declared.breaks.Change.TheVariants as change
use Rattle.planus_conform.specs.declared.breaks.Place.TheVariants as place
use Rattle.planus_conform.specs.declared.breaks.Way.{Way}
use Rattle.planus_conform.specs.declared.breaks.Way.TheVariants as way
use Rattle.planus_conform.specs.Values.{body_of, member_in}
use Rattle.planus_conform.specs.Reads.{is_nothing, given, default_of, field_in, part_in}
use Rattle.planus_conform.specs.Matching.{named, matches_of, match_in, match_at, is_index}
use Rattle.planus_conform.specs.Types.{scalar_code, are_matched, same_base, same_count, same_truth, same_type}
use Rattle.planus_conform.specs.Defaults.{same_number, same_given, same_default}
use Rattle.planus_conform.specs.Breaks.{meets_old, meets_new, noted, change_if, is_moved, may_require, same_nested, kept_change, change_from, field_change, field_breaks, is_part_moved, part_change_to, part_change, part_breaks, has_number, is_value_moved, value_change, value_breaks, added_values, enum_change, is_member_moved, member_change_to, member_change, member_breaks, is_member, added_members, breaks_to, body_breaks, body_if, declared_breaks, breaks_from, root_change, identifier_change}
use Rattle.planus_conform.proofs.Parts.{both_true, not_true, and_true, or_right, truth_is_same, number_is_same, given_is_same, count_is_same}
use Rattle.planus_conform.specs.NoBreaks.{has_fields, is_filled, UnchangedBreaksNothing, GrowsTo, GrowAllTo, AddedFieldsBreakNothing}

-- ---- tests

pub and_false_left : (a b : Bool) → a ≡ false → (a && b) ≡ false
and_false_left true b e = absurd cc
and_false_left false b e = refl

pub and_false_right : (a b : Bool) → b ≡ false → (a && b) ≡ false
and_false_right true b e = e
and_false_right false b e = refl

or_false : (a b : Bool) → a ≡ false → b ≡ false → (a || b) ≡ false
or_false true b e f = absurd cc
or_false false b e f = f

pub or_none : (a b : Bool) → (a || b) ≡ false → (a ≡ false) × (b ≡ false)
or_none true b e = absurd cc
or_none false b e = (refl, e)

bytes_are_same : (w : List ℕ) → bytes_eq w w ≡ true
bytes_are_same w = (bytes_eq-Decides w w).1 refl

bytes_apart : (a b : List ℕ) → bytes_eq a b ≡ false → bytes_eq b a ≡ false
bytes_apart a b e = by_test (bytes_eq b a) refl
  where
    by_test : (q : Bool) → bytes_eq b a ≡ q → q ≡ false
    by_test true k =
        let same : bytes_eq a b ≡ true = (bytes_eq-Decides a b).1 (sym ((bytes_eq-Decides b a).0 k)) in
        absurd cc
    by_test false k = refl

not_other : (n : ℕ) → not (n == n) ≡ false
not_other n = ap not (eq-eqb n n refl)

joined : {A : Type 0} (xs ys : List A) → xs ≡ [] → ys ≡ [] → xs ++ ys ≡ []
joined xs ys e f = ap (λ zs. zs ++ ys) e ∙ f

-- ---- members of lists

abbrev pub IsIn : {A : Type 0} → A → List A → Type 0
IsIn x [] = ⊥
IsIn x (y ∷ ys) = (x ≡ y) ⊎ IsIn x ys

contains : {A : Type 0} (xs : List A) (x : A) → IsIn x xs → Contains xs x
contains [] x i = absurd i
contains (y ∷ ys) x (inl e) = (0, omega arith, sym e)
contains (y ∷ ys) x (inr i) = let more = contains ys x i in (suc more.0, omega (arith, more.1), more.2)

pub contained : {A : Type 0} (xs : List A) (x : A) → Contains xs x → IsIn x xs
contained [] x (k, l, e) = absurd (omega (arith, l))
contained (y ∷ ys) x (zero, l, e) = inl (sym e)
contained (y ∷ ys) x (suc k, l, e) = inr (contained ys x (k, omega (arith, l), e))

-- where names are distinct, none has another place
module _ {A : Type 0} (name : A → List ℕ) (test : A → A → Bool)
    (itself : (a : A) → test a a ≡ false)
    (other : (a b : A) → bytes_eq (name a) (name b) ≡ false → test a b ≡ false) where
  none_later : (x : A) (ys : List A) → AllByRecursion (λ y. bytes_eq (name x) y ≡ false) (map name ys) → list_any (λ g. test g x) ys ≡ false
  none_later x [] a = refl
  none_later x (y ∷ ys) a =
      or_false (test y x) (list_any (λ g. test g x) ys) (other y x (bytes_apart (name x) (name y) a.0)) (none_later x ys a.1)

  not_first : (x : A) (ys : List A) → AllByRecursion (λ y. bytes_eq (name x) y ≡ false) (map name ys) → (f : A) → IsIn f ys → bytes_eq (name x) (name f) ≡ false
  not_first x [] a f i = absurd i
  not_first x (y ∷ ys) a f (inl e) = subst (λ z. bytes_eq (name x) (name z) ≡ false) (sym e) a.0
  not_first x (y ∷ ys) a f (inr i) = not_first x ys a.1 f i

  pub none_moved : (xs : List A) → IsDistinct bytes_eq (map name xs) → (f : A) → IsIn f xs → list_any (λ g. test g f) xs ≡ false
  unfolding IsDistinct
  none_moved [] d f i = refl
  none_moved (x ∷ xs) d f (inl e) =
      subst (λ z. list_any (λ g. test g z) (x ∷ xs) ≡ false) (sym e)
      (or_false (test x x) (list_any (λ g. test g x) xs) (itself x) (none_later x xs d.0))
  none_moved (x ∷ xs) d f (inr i) =
      or_false (test x f) (list_any (λ g. test g f) xs) (other x f (not_first x xs d.0 f i)) (none_moved xs d.1 f i)

-- no later one has the same key
abbrev pub Once : {A : Type 0} → (A → ℕ) → List A → Type 0
Once key [] = Unit {0}
Once key (x ∷ xs) = ((f : _) → IsIn f xs → (key x == key f) ≡ false) × Once key xs

-- where keys are distinct, each is found by its own
module _ {A : Type 0} (key : A → ℕ) (found : List A → ℕ → Option A)
    (step : (x : A) (xs : List A) (n : ℕ) → found (x ∷ xs) n ≡ (if key x == n then Some x else found xs n)) where
  pub found_itself : (xs : List A) → Once key xs → (f : A) → IsIn f xs → found xs (key f) ≡ Some f
  found_itself [] o f i = absurd i
  found_itself (x ∷ xs) o f (inl e) =
      subst (λ z. found (x ∷ xs) (key z) ≡ Some z) (sym e)
      (step x xs (key x) ∙ ap (λ b. if b then Some x else found xs (key x)) (eq-eqb (key x) (key x) refl))
  found_itself (x ∷ xs) o f (inr i) =
      step x xs (key f) ∙ ap (λ b. if b then Some x else found xs (key f)) (o.0 f i) ∙ found_itself xs o.1 f i

-- ---- names and slots of tables

all_apart : (w : List ℕ) (fs : List TableField) → AllByRecursion (λ y. bytes_eq w y ≡ false) (all_names fs) → AllByRecursion (λ y. bytes_eq w y ≡ false) (map (λ f. f.name.items) fs)
all_apart w [] a = tt
all_apart w (f ∷ fs) a = by_kind (is_union f.kind) (all_apart w fs) a
  where
    by_kind : (b : Bool) → (AllByRecursion (λ y. bytes_eq w y ≡ false) (all_names fs) → AllByRecursion (λ y. bytes_eq w y ≡ false) (map (λ g. g.name.items) fs))
        → AllByRecursion (λ y. bytes_eq w y ≡ false) ((if b then type_name f.name.items ∷ f.name.items ∷ [] else f.name.items ∷ []) ++ all_names fs)
        → (bytes_eq w f.name.items ≡ false) × AllByRecursion (λ y. bytes_eq w y ≡ false) (map (λ g. g.name.items) fs)
    by_kind true h a = (a.1.0, h a.1.1)
    by_kind false h a = (a.0, h a.1)

names_apart : (fs : List TableField) → IsDistinct bytes_eq (all_names fs) → IsDistinct bytes_eq (map (λ f. f.name.items) fs)
unfolding IsDistinct
names_apart [] d = tt
names_apart (f ∷ fs) d = by_kind (is_union f.kind) (names_apart fs) d
  where
    by_kind : (b : Bool) → (IsDistinct bytes_eq (all_names fs) → IsDistinct bytes_eq (map (λ g. g.name.items) fs))
        → IsDistinct bytes_eq ((if b then type_name f.name.items ∷ f.name.items ∷ [] else f.name.items ∷ []) ++ all_names fs)
        → IsDistinct bytes_eq (map (λ g. g.name.items) (f ∷ fs))
    by_kind true h d = (all_apart f.name.items fs d.1.0, h d.1.1)
    by_kind false h d = (all_apart f.name.items fs d.0, h d.1)

apart_parts : (n : ℕ) (ns : List ℕ) → are_apart (n ∷ ns) ≡ true → (list_any (nat_eq n) ns ≡ false) × (are_apart ns ≡ true)
apart_parts n ns e =
    let p = both_true (not (list_any (nat_eq n) ns)) (are_apart ns) e in
    (not_true (list_any (nat_eq n) ns) p.0, p.1)

slot_apart : (n : ℕ) (fs : List TableField) → list_any (nat_eq n) (slots_taken fs) ≡ false → (f : TableField) → IsIn f fs → (n == f.slot) ≡ false
slot_apart n [] e f i = absurd i
slot_apart n (g ∷ fs) e f i = by_kind (is_union g.kind) (λ h j. slot_apart n fs h f j) e
  where
    rest : (list_any (nat_eq n) (slots_taken fs) ≡ false → IsIn f fs → (n == f.slot) ≡ false)
        → (nat_eq n g.slot ≡ false) × (list_any (nat_eq n) (slots_taken fs) ≡ false) → IsIn f (g ∷ fs) → (n == f.slot) ≡ false
    rest h p (inl s) = subst (λ z. (n == z.slot) ≡ false) (sym s) p.0
    rest h p (inr j) = h p.1 j

    by_kind : (b : Bool) → (list_any (nat_eq n) (slots_taken fs) ≡ false → IsIn f fs → (n == f.slot) ≡ false)
        → list_any (nat_eq n) ((if b then (g.slot - 1) ∷ g.slot ∷ [] else g.slot ∷ []) ++ slots_taken fs) ≡ false → (n == f.slot) ≡ false
    by_kind true h e = rest h (or_none (nat_eq n g.slot) _ (or_none (nat_eq n (g.slot - 1)) _ e).1) i
    by_kind false h e = rest h (or_none (nat_eq n g.slot) _ e) i

pub slots_once : (fs : List TableField) → are_apart (slots_taken fs) ≡ true → Once (λ f. f.slot) fs
slots_once [] e = tt
slots_once (g ∷ fs) e = by_kind (is_union g.kind) (slots_once fs) e
  where
    rest : (are_apart (slots_taken fs) ≡ true → Once (λ f. f.slot) fs)
        → are_apart (g.slot ∷ slots_taken fs) ≡ true → Once (λ f. f.slot) (g ∷ fs)
    rest h e =
        let p = apart_parts g.slot (slots_taken fs) e in
        (slot_apart g.slot fs p.0, h p.1)

    by_kind : (b : Bool) → (are_apart (slots_taken fs) ≡ true → Once (λ f. f.slot) fs)
        → are_apart ((if b then (g.slot - 1) ∷ g.slot ∷ [] else g.slot ∷ []) ++ slots_taken fs) ≡ true → Once (λ f. f.slot) (g ∷ fs)
    by_kind true h e = rest h (apart_parts (g.slot - 1) (g.slot ∷ slots_taken fs) e).1
    by_kind false h e = rest h e

-- ---- sizes and distances of structs

abbrev pub SizedBelow : List Body → ℕ → Type 0
SizedBelow bs n = (i : ℕ) (s : Struct) → i < n → slice_get bs i ≡ Some (body.Struct s) → 0 < s.size

scalar_sized : (s : Scalar) → 0 < scalar_size s
scalar_sized scalar.Bool = omega arith
scalar_sized scalar.Byte = omega arith
scalar_sized scalar.UByte = omega arith
scalar_sized scalar.Short = omega arith
scalar_sized scalar.UShort = omega arith
scalar_sized scalar.Int = omega arith
scalar_sized scalar.UInt = omega arith
scalar_sized scalar.Long = omega arith
scalar_sized scalar.ULong = omega arith
scalar_sized scalar.Float = omega arith
scalar_sized scalar.Double = omega arith

abbrev size_in : Option Measure → ℕ
size_in None = 0
size_in (Some x) = x.size

body_sized : (o : Option Body) (x : Measure) → ((s : Struct) → o ≡ Some (body.Struct s) → 0 < s.size) → measure_of_body o ≡ Some x → 0 < x.size
body_sized None x h e = absurd cc
body_sized (Some (body.Table t)) x h e = absurd cc
body_sized (Some (body.Struct s)) x h e = subst (λ n. 0 < n) (ap size_in e) (h s refl)
body_sized (Some (body.Enum g)) x h e = subst (λ n. 0 < n) (ap size_in e) (scalar_sized g.scalar)
body_sized (Some (body.Union u)) x h e = absurd cc

field_sized : (bs : List Body) (n : ℕ) → SizedBelow bs n → (b : Base) (x : Measure) → IsBelow n b → measure_in bs b ≡ Some x → 0 < x.size
field_sized bs n h (base.Scalar s) x l e = subst (λ n. 0 < n) (ap size_in e) (scalar_sized s)
field_sized bs n h base.Text x l e = absurd l
field_sized bs n h (base.Enum i) x l e = body_sized (slice_get bs i) x (λ s. h i s l) e
field_sized bs n h (base.Struct i) x l e = body_sized (slice_get bs i) x (λ s. h i s l) e
field_sized bs n h (base.Table i) x l e = absurd l
field_sized bs n h (base.Union i) x l e = absurd l

items_some : (count : Option ℕ) → IsCount count → 1 ≤ items_in count
items_some None h = omega arith
items_some (Some n) h = h.0

part_sized : (bs : List Body) (n : ℕ) → SizedBelow bs n → (f : StructField) → RefersBefore bs n f → 0 < f.size
part_sized bs n h f r =
    let item : 0 < r.item.size = field_sized bs n h f.base r.item r.below r.measure in
    let most : 1 * r.item.size ≤ items_in f.count * r.item.size = mul-le-mul_right r.item.size (items_some f.count r.count) in
    omega (arith, item, most, r.size)

laid_end : (at end : ℕ) (fs : List StructField) → Laid at fs end → at ≤ end
laid_end at end [] l = omega (arith, l)
laid_end at end (f ∷ fs) l = omega (arith, l.0.after, laid_end (f.distance + f.size) end fs l.1)

laid_sized : (bs : List Body) (n end : ℕ) (fs : List StructField) → SizedBelow bs n → has_fields fs ≡ true → AllByRecursion (RefersBefore bs n) fs → Laid 0 fs end → 0 < end
laid_sized bs n end [] h e r l = absurd cc
laid_sized bs n end (f ∷ fs) h e r l =
    let some : 0 < f.size = part_sized bs n h f r.0 in
    omega (arith, some, laid_end (f.distance + f.size) end fs l.1)

abbrev body_or : Body → Option Body → Body
body_or b None = b
body_or b (Some c) = c

abbrev declared_or : Declared → Option Declared → Declared
declared_or c None = c
declared_or c (Some d) = d

pub sound_at : (all : List Body) (n : ℕ) (bs : List Body) → AreSound all n bs → (k : ℕ) (b : Body) → slice_get bs k ≡ Some b → IsBody b × RefersBody all (n + k) b
sound_at all n [] s k b e = absurd cc
sound_at all n (c ∷ bs) s zero b e =
    let same : c ≡ b = ap (λ o. body_or c o) e in
    (subst IsBody same s.0, subst (λ k. RefersBody all k b) (omega arith) (subst (λ d. RefersBody all n d) same s.1))
sound_at all n (c ∷ bs) s (suc k) b e =
    let more = sound_at all (n + 1) bs s.2 k b e in
    (more.0, subst (λ j. RefersBody all j b) (omega arith) more.1)

abbrev filled_in : Option Body → Bool
filled_in None = true
filled_in (Some b) = is_filled b

pub filled_at : (ds : List Declared) → list_all (λ d. is_filled d.body) ds ≡ true → (k : ℕ) (b : Body) → slice_get (map body_in ds) k ≡ Some b → is_filled b ≡ true
filled_at [] f k b e = absurd cc
filled_at (d ∷ ds) f zero b e =
    subst (λ o. filled_in o ≡ true) e (both_true (is_filled d.body) (list_all (λ d. is_filled d.body) ds) f).0
filled_at (d ∷ ds) f (suc k) b e = filled_at ds (both_true (is_filled d.body) (list_all (λ d. is_filled d.body) ds) f).1 k b e

module _ (bs : List Body) (sound : AreSound bs 0 bs) (filled : (i : ℕ) (b : Body) → slice_get bs i ≡ Some b → is_filled b ≡ true) where
  pub sized_below : (n : ℕ) → SizedBelow bs n
  sized_below zero i s l e = absurd (omega (arith, l))
  sized_below (suc n) i s l e =
      let known = sound_at bs 0 bs sound i (body.Struct s) e in
      let before : SizedBelow bs i = λ j t k. sized_below n j t (omega (arith, k, l)) in
      let refers : AllByRecursion (RefersBefore bs i) s.fields.items = subst (λ j. RefersBody bs j (body.Struct s)) (omega arith) known.1 in
      let places = known.0.places in
      let some : 0 < places.end = laid_sized bs i places.end s.fields.items before (filled i (body.Struct s) e) refers places.laid in
      omega (arith, some, places.size.after)

later : (at end : ℕ) (fs : List StructField) → Laid at fs end → (f : StructField) → IsIn f fs → at ≤ f.distance
later at end [] l f i = absurd i
later at end (g ∷ fs) l f (inl e) = subst (λ z. at ≤ z.distance) (sym e) l.0.after
later at end (g ∷ fs) l f (inr i) = omega (arith, l.0.after, later (g.distance + g.size) end fs l.1 f i)

pub distances_once : (bs : List Body) (n at end : ℕ) (fs : List StructField) → SizedBelow bs n → AllByRecursion (RefersBefore bs n) fs → Laid at fs end → Once (λ f. f.distance) fs
distances_once bs n at end [] h r l = tt
distances_once bs n at end (g ∷ fs) h r l = (
  λ f i.
      let some : 0 < g.size = part_sized bs n h g r.0 in
      ne_eqb g.distance f.distance (λ e. omega (arith, e, some, later (g.distance + g.size) end fs l.1 f i)),
  distances_once bs n (g.distance + g.size) end fs h r.1 l.1,
)

-- ---- tags of unions

tag_apart : (n : ℕ) (ms : List UnionMember) → AllByRecursion (λ y. nat_eq n y ≡ false) (map tag_in ms) → (f : UnionMember) → IsIn f ms → (n == f.tag) ≡ false
tag_apart n [] a f i = absurd i
tag_apart n (m ∷ ms) a f (inl e) = subst (λ z. (n == z.tag) ≡ false) (sym e) a.0
tag_apart n (m ∷ ms) a f (inr i) = tag_apart n ms a.1 f i

tags_once : (ms : List UnionMember) → IsDistinct nat_eq (map tag_in ms) → Once (λ m. m.tag) ms
unfolding IsDistinct
tags_once [] d = tt
tags_once (m ∷ ms) d = (tag_apart m.tag ms d.0, tags_once ms d.1)

-- ---- each declaration matches itself

-- the comparison of a name with that of a declaration, if there is one
abbrev Compares : List ℕ → Bool → Option Declared → Type 0
Compares w b None = Unit {0}
Compares w b (Some d) = bytes_eq w d.name.items ≡ b

apart_at : (w : List ℕ) (ds : List Declared) → AllByRecursion (λ y. bytes_eq w y ≡ false) (map (λ d. d.name.items) ds) → (i : ℕ) (d : Declared) → slice_get ds i ≡ Some d → bytes_eq w d.name.items ≡ false
apart_at w [] a i d e = absurd cc
apart_at w (c ∷ ds) a zero d e = subst (Compares w false) e a.0
apart_at w (c ∷ ds) a (suc i) d e = apart_at w ds a.1 i d e

place_of : (ds : List Declared) → IsDistinct bytes_eq (map (λ d. d.name.items) ds) → (i : ℕ) (d : Declared) → slice_get ds i ≡ Some d → prefix_len (λ c. not (bytes_eq c.name.items d.name.items)) ds ≡ i
unfolding IsDistinct
place_of [] u i d e = absurd cc
place_of (c ∷ ds) u zero d e =
    ap (λ b. cond (not b) (1 + prefix_len (λ c. not (bytes_eq c.name.items d.name.items)) ds) 0)
    (subst (Compares c.name.items true) e (bytes_are_same c.name.items))
place_of (c ∷ ds) u (suc i) d e =
    ap (λ b. cond (not b) (1 + prefix_len (λ c. not (bytes_eq c.name.items d.name.items)) ds) 0) (apart_at c.name.items ds u.0 i d e)
    ∙ omega (arith, place_of ds u.1 i d e)

pub named_itself : (ds : List Declared) → IsDistinct bytes_eq (map (λ d. d.name.items) ds) → (i : ℕ) (d : Declared) → slice_get ds i ≡ Some d → named ds d.name.items ≡ Some i
named_itself ds u i d e =
    ap (λ k. cond (nat_lt k (length ds)) (Some k) None) (place_of ds u i d e)
    ∙ ap (λ b. cond b (Some i) None) (lt-ltb i (length ds) (slice_get_within ds i d e))

grown_at : (old new : List Declared) → GrowAllTo old new → (i : ℕ) (d : Declared) → slice_get old i ≡ Some d
    → (e : Declared) × (slice_get new i ≡ Some e) × (d.name.items ≡ e.name.items) × GrowsTo d.body e.body
grown_at [] new g i d e = absurd cc
grown_at (c ∷ old) [] g i d e = absurd g
grown_at (c ∷ old) (f ∷ new) g zero d e =
    let same : c ≡ d = ap (λ o. declared_or c o) e in
    (f, refl, ap (λ x. x.name.items) (sym same) ∙ g.0, subst (λ x. GrowsTo x.body f.body) same g.1)
grown_at (c ∷ old) (f ∷ new) g (suc i) d e = grown_at old new g.2 i d e

match_grown : (old new : List Declared) → IsDistinct bytes_eq (map (λ d. d.name.items) new) → GrowAllTo old new
    → (i : ℕ) (d : Declared) → slice_get old i ≡ Some d → match_at (matches_of [] old new) i ≡ Some i
match_grown old new u g i d e =
    let more = grown_at old new g i d e in
    ap match_in (slice_get-map (λ d. named new d.name.items) old i ∙ ap (λ o. option_map (λ d. named new d.name.items) o) e)
    ∙ ap (named new) more.2 ∙ named_itself new u i more.0 more.1

abbrev Stays : List (Option ℕ) → List Body → Type 0
Stays m bs = (i : ℕ) (b : Body) → slice_get bs i ≡ Some b → are_matched m i i ≡ true

stays : (old new : List Declared) → IsDistinct bytes_eq (map (λ d. d.name.items) new) → GrowAllTo old new → Stays (matches_of [] old new) (map body_in old)
stays old new u g i b e = by_case (slice_get old i) refl (sym (slice_get-map body_in old i) ∙ e)
  where
    by_case : (o : Option Declared) → slice_get old i ≡ o → option_map body_in o ≡ Some b → are_matched (matches_of [] old new) i i ≡ true
    by_case None s k = absurd cc
    by_case (Some d) s k = ap (λ o. is_index o i) (match_grown old new u g i d s) ∙ eq-eqb i i refl

-- ---- each part stays

requires_alike : (w : Way) (b : Bool) → may_require w b b ≡ true
requires_alike way.Both true = refl
requires_alike way.Both false = refl
requires_alike way.Backward true = refl
requires_alike way.Backward false = refl
requires_alike way.Forward true = refl
requires_alike way.Forward false = refl

default_is_same : (f : TableField) → same_default f f ≡ true
default_is_same f = by_test (is_nothing f.kind (default_of f))
  where
    by_test : (p : Bool) → (if p || p then p && p else same_given (given f.kind.base (default_of f)) (given f.kind.base (default_of f))) ≡ true
    by_test true = refl
    by_test false = given_is_same (given f.kind.base (default_of f))

default_kept : (r : Bool) (f : TableField) → (r || r || same_default f f) ≡ true
default_kept true f = refl
default_kept false f = default_is_same f

unchanged : (x y z u : Change) (a b c d : Bool) → a ≡ true → b ≡ true → c ≡ true → d ≡ true
    → (if not a then Some x else if not b then Some y else if not c then Some z else change_if (not d) u) ≡ None
unchanged x y z u true true true true e f g h = refl
unchanged x y z u false b c d e f g h = absurd cc
unchanged x y z u true false c d e f g h = absurd cc
unchanged x y z u true true false d e f g h = absurd cc
unchanged x y z u true true true false e f g h = absurd cc

never : (met : Bool) (b : Bool) (c : Change) → b ≡ true → change_if (met && not b) c ≡ None
never met true c e = ap (λ x. change_if x c) (and_false_right met false refl)
never met false c e = absurd cc

module _ (w : Way) (m : List (Option ℕ)) (bs : List Body) (stay : Stays m bs) where
  base_kept : (b : Base) → Refers bs b → same_base m b b ≡ true
  base_kept (base.Scalar s) r = eq-eqb (scalar_code s) (scalar_code s) refl
  base_kept base.Text r = refl
  base_kept (base.Enum i) r = stay i (body.Enum r.0) r.1
  base_kept (base.Struct i) r = stay i (body.Struct r.0) r.1
  base_kept (base.Table i) r = stay i (body.Table r.0) r.1
  base_kept (base.Union i) r = stay i (body.Union r.0) r.1

  kind_kept : (t : FieldType) → Refers bs t.base → same_type m t t ≡ true
  kind_kept t r = and_true (same_truth t.vector t.vector) (same_base m t.base t.base) (truth_is_same t.vector) (base_kept t.base r)

  nested_kept : (o : Option ℕ) → IsNested bs o → same_nested m o o ≡ true
  nested_kept None r = refl
  nested_kept (Some i) r = stay i (body.Table r.0) r.1

  field_kept : (f : TableField) → RefersField bs f → kept_change w m f f ≡ None
  field_kept f r =
      unchanged change.TypeChanged change.RequiredChanged change.DefaultChanged change.NestedChanged
      (same_type m f.kind f.kind) (may_require w f.required f.required) (f.required || f.required || same_default f f) (same_nested m f.nested f.nested)
      (kind_kept f.kind r.kind) (requires_alike w f.required) (default_kept f.required f) (nested_kept f.nested r.nested)

  field_stays : (gs : List TableField) (f : TableField) → RefersField bs f → is_moved gs f ≡ false → field_in gs f.slot ≡ Some f → field_change w m gs f ≡ None
  field_stays gs f r moved found = by_test f.deprecated refl
    where
      by_test : (b : Bool) → f.deprecated ≡ b → (if b then None else if is_moved gs f then Some change.Moved else change_from w m f (field_in gs f.slot)) ≡ None
      by_test true e = refl
      by_test false e =
          ap (λ c. if c then Some change.Moved else change_from w m f (field_in gs f.slot)) moved
          ∙ ap (change_from w m f) found
          ∙ ap (λ b. if b then change_if (f.required && meets_new w) change.RequiredDeprecated else kept_change w m f f) e
          ∙ field_kept f r

  fields_stay : (n : ℕ) (gs : List TableField) → IsDistinct bytes_eq (all_names gs) → are_apart (slots_taken gs) ≡ true
      → (fs : List TableField) → ((f : TableField) → IsIn f fs → IsIn f gs) → AllByRecursion (RefersField bs) fs → field_breaks w m n gs fs ≡ []
  fields_stay n gs d s [] within r = refl
  fields_stay n gs d s (f ∷ fs) within r =
      ap (λ o. noted (place.Field n f.slot) o ++ field_breaks w m n gs fs) (field_stays gs f r.0 moved found)
      ∙ fields_stay n gs d s fs (λ g i. within g (inr i)) r.1
    where
      moved : is_moved gs f ≡ false
      moved =
          none_moved (λ g. g.name.items)
          (λ g f. bytes_eq g.name.items f.name.items && not g.deprecated && not (g.slot == f.slot))
          (λ g. and_false_right (bytes_eq g.name.items g.name.items && not g.deprecated) (not (g.slot == g.slot)) (not_other g.slot))
          (λ g f e. and_false_left (bytes_eq g.name.items f.name.items && not g.deprecated) (not (g.slot == f.slot))
          (and_false_left (bytes_eq g.name.items f.name.items) (not g.deprecated) e))
          gs (names_apart gs d) f (within f (inl refl))

      found : field_in gs f.slot ≡ Some f
      found = found_itself (λ g. g.slot) field_in (λ x xs n. refl) gs (slots_once gs s) f (within f (inl refl))

  measured_kept : (i : ℕ) (x : Measure) → measure_of_body (slice_get bs i) ≡ Some x → are_matched m i i ≡ true
  measured_kept i x e = by_case (slice_get bs i) refl e
    where
      by_case : (o : Option Body) → slice_get bs i ≡ o → measure_of_body o ≡ Some x → are_matched m i i ≡ true
      by_case None s k = absurd cc
      by_case (Some b) s k = stay i b s

  part_kept : (b : Base) (x : Measure) → measure_in bs b ≡ Some x → same_base m b b ≡ true
  part_kept (base.Scalar s) x e = eq-eqb (scalar_code s) (scalar_code s) refl
  part_kept base.Text x e = refl
  part_kept (base.Enum i) x e = measured_kept i x e
  part_kept (base.Struct i) x e = measured_kept i x e
  part_kept (base.Table i) x e = absurd cc
  part_kept (base.Union i) x e = absurd cc

  parts_stay : (n k : ℕ) (gs : List StructField) → IsDistinct bytes_eq (map (λ g. g.name.items) gs) → Once (λ g. g.distance) gs
      → (fs : List StructField) → ((f : StructField) → IsIn f fs → IsIn f gs) → AllByRecursion (RefersBefore bs k) fs → part_breaks m n gs fs ≡ []
  parts_stay n k gs d s [] within r = refl
  parts_stay n k gs d s (f ∷ fs) within r =
      ap (λ o. noted (place.Part n f.distance) o ++ part_breaks m n gs fs) stays_there
      ∙ parts_stay n k gs d s fs (λ g i. within g (inr i)) r.1
    where
      moved : is_part_moved gs f ≡ false
      moved =
          none_moved (λ g. g.name.items)
          (λ g f. bytes_eq g.name.items f.name.items && not (g.distance == f.distance))
          (λ g. and_false_right (bytes_eq g.name.items g.name.items) (not (g.distance == g.distance)) (not_other g.distance))
          (λ g f e. and_false_left (bytes_eq g.name.items f.name.items) (not (g.distance == f.distance)) e)
          gs d f (within f (inl refl))

      found : part_in gs f.distance ≡ Some f
      found = found_itself (λ g. g.distance) part_in (λ x xs n. refl) gs s f (within f (inl refl))

      stays_there : part_change m gs f ≡ None
      stays_there =
          ap (λ c. if c then Some change.Moved else part_change_to m f (part_in gs f.distance)) moved
          ∙ ap (part_change_to m f) found
          ∙ ap (λ b. change_if (not b) change.TypeChanged)
          (and_true (same_base m f.base f.base) (same_count f.count f.count) (part_kept f.base _ r.0.measure) (count_is_same f.count))

  numbered : (us : List EnumValue) (v : EnumValue) → IsIn v us → has_number us v.number ≡ true
  numbered [] v i = absurd i
  numbered (u ∷ us) v (inl e) =
      ap (λ b. b || has_number us v.number) (subst (λ z. same_number v.number z.number ≡ true) e (number_is_same v.number))
  numbered (u ∷ us) v (inr i) = or_right (same_number v.number u.number) (has_number us v.number) (numbered us v i)

  values_stay : (met : Bool) (n : ℕ) (us : List EnumValue) → IsDistinct bytes_eq (map (λ v. v.name.items) us)
      → (vs : List EnumValue) → ((v : EnumValue) → IsIn v vs → IsIn v us) → value_breaks met n us vs ≡ []
  values_stay met n us d [] within = refl
  values_stay met n us d (v ∷ vs) within =
      ap (λ o. noted (place.Value n v.number) o ++ value_breaks met n us vs) stays_there
      ∙ values_stay met n us d vs (λ u i. within u (inr i))
    where
      moved : is_value_moved us v ≡ false
      moved =
          none_moved (λ u. u.name.items)
          (λ u v. bytes_eq u.name.items v.name.items && not (same_number v.number u.number))
          (λ u. and_false_right (bytes_eq u.name.items u.name.items) (not (same_number u.number u.number)) (ap not (number_is_same u.number)))
          (λ u v e. and_false_left (bytes_eq u.name.items v.name.items) (not (same_number v.number u.number)) e)
          us d v (within v (inl refl))

      stays_there : value_change met us v ≡ None
      stays_there =
          ap (λ c. if c then Some change.Moved else change_if (met && not (has_number us v.number)) change.ValueRemoved) moved
          ∙ never met (has_number us v.number) change.ValueRemoved (numbered us v (within v (inl refl)))

  none_added : (met : Bool) (n : ℕ) (vs us : List EnumValue) → ((u : EnumValue) → IsIn u us → IsIn u vs) → added_values met n vs us ≡ []
  none_added met n vs [] within = refl
  none_added met n vs (u ∷ us) within =
      ap (λ o. noted (place.Value n u.number) o ++ added_values met n vs us) (never met (has_number vs u.number) change.ValueAdded (numbered vs u (within u (inl refl))))
      ∙ none_added met n vs us (λ v i. within v (inr i))

  members_stay : (met : Bool) (n : ℕ) (ys : List UnionMember) → IsDistinct bytes_eq (map (λ a. a.name.items) ys) → Once (λ a. a.tag) ys
      → (xs : List UnionMember) → ((a : UnionMember) → IsIn a xs → IsIn a ys) → AllByRecursion (λ a. RefersMember bs a.base) xs → member_breaks met m n ys xs ≡ []
  members_stay met n ys d s [] within r = refl
  members_stay met n ys d s (a ∷ xs) within r =
      ap (λ o. noted (place.Member n a.tag) o ++ member_breaks met m n ys xs) stays_there
      ∙ members_stay met n ys d s xs (λ b i. within b (inr i)) r.1
    where
      moved : is_member_moved ys a ≡ false
      moved =
          none_moved (λ b. b.name.items)
          (λ b a. bytes_eq b.name.items a.name.items && not (b.tag == a.tag))
          (λ b. and_false_right (bytes_eq b.name.items b.name.items) (not (b.tag == b.tag)) (not_other b.tag))
          (λ b a e. and_false_left (bytes_eq b.name.items a.name.items) (not (b.tag == a.tag)) e)
          ys d a (within a (inl refl))

      found : member_in ys a.tag ≡ Some a
      found = found_itself (λ b. b.tag) member_in (λ x xs n. refl) ys s a (within a (inl refl))

      stays_there : member_change met m ys a ≡ None
      stays_there =
          ap (λ c. if c then Some change.Moved else member_change_to met m a (member_in ys a.tag)) moved
          ∙ ap (member_change_to met m a) found
          ∙ ap (λ b. change_if (not b) change.MemberChanged) (base_kept a.base r.0.1)

  no_member_added : (met : Bool) (n : ℕ) (ys : List UnionMember) → Once (λ a. a.tag) ys
      → (xs : List UnionMember) → ((a : UnionMember) → IsIn a xs → IsIn a ys) → added_members met n ys xs ≡ []
  no_member_added met n ys s [] within = refl
  no_member_added met n ys s (a ∷ xs) within =
      ap (λ o. noted (place.Member n a.tag) o ++ added_members met n ys xs)
      (never met (is_member (member_in ys a.tag)) change.MemberAdded
      (ap is_member (found_itself (λ b. b.tag) member_in (λ x xs n. refl) ys s a (within a (inl refl)))))
      ∙ no_member_added met n ys s xs (λ b i. within b (inr i))

  enum_kept : (e : Enum) → enum_change e e ≡ None
  enum_kept e =
      ap (λ b. if not b then Some change.NumberTypeChanged else change_if (not (same_truth e.flags e.flags)) change.FlagsChanged) (eq-eqb (scalar_code e.scalar) (scalar_code e.scalar) refl)
      ∙ ap (λ b. change_if (not b) change.FlagsChanged) (truth_is_same e.flags)

  table_grows : (n : ℕ) (fs gs : List TableField) → ((f : TableField) → IsIn f fs → IsIn f gs) → AllByRecursion (RefersField bs) fs
      → IsDistinct bytes_eq (all_names gs) → are_whole (slots_taken gs) ≡ true → field_breaks w m n gs fs ≡ []
  table_grows n fs gs within r d s =
      fields_stay n gs d (both_true (list_all (λ k. nat_lt k (length (slots_taken gs))) (slots_taken gs)) (are_apart (slots_taken gs)) s).1 fs within r

  body_stays : (n : ℕ) → SizedBelow bs n → (b : Body) → IsBody b → RefersBody bs n b → breaks_to w m n b b ≡ []
  unfolding IsDistinct
  body_stays n h (body.Table t) s r =
      table_grows n t.fields.items t.fields.items (λ f i. i) r s.names s.slots.whole
  body_stays n h (body.Struct t) s r =
      joined (part_breaks m n t.fields.items t.fields.items) (noted (place.Declaration n) (change_if (not (t.size == t.size)) change.SizeChanged))
      (parts_stay n n t.fields.items s.names (distances_once bs n 0 s.places.end t.fields.items h r s.places.laid) t.fields.items (λ f i. i) r)
      (ap (λ b. noted (place.Declaration n) (change_if b change.SizeChanged)) (not_other t.size))
  body_stays n h (body.Enum e) s r =
      joined (noted (place.Declaration n) (enum_change e e) ++ value_breaks (meets_old w && not e.flags) n e.values.items e.values.items) (added_values (meets_new w && not e.flags) n e.values.items e.values.items)
      (joined (noted (place.Declaration n) (enum_change e e)) (value_breaks (meets_old w && not e.flags) n e.values.items e.values.items)
      (ap (noted (place.Declaration n)) (enum_kept e))
      (values_stay (meets_old w && not e.flags) n e.values.items s.names e.values.items (λ v i. i)))
      (none_added (meets_new w && not e.flags) n e.values.items e.values.items (λ v i. i))
  body_stays n h (body.Union u) s r =
      joined (member_breaks (meets_old w) m n u.members.items u.members.items) (added_members (meets_new w) n u.members.items u.members.items)
      (members_stay (meets_old w) n u.members.items s.names.1 (tags_once u.members.items s.distinct) u.members.items (λ a i. i) r)
      (no_member_added (meets_new w) n u.members.items (tags_once u.members.items s.distinct) u.members.items (λ a i. i))

  same_stays : (n : ℕ) → SizedBelow bs n → (b c : Body) → b ≡ c → IsBody b → RefersBody bs n b → breaks_to w m n b c ≡ []
  same_stays n h b c e s r = subst (λ x. breaks_to w m n b x ≡ []) e (body_stays n h b s r)

  body_grows : (n : ℕ) → SizedBelow bs n → (b c : Body) → GrowsTo b c → IsBody b → IsBody c → RefersBody bs n b → breaks_to w m n b c ≡ []
  body_grows n h (body.Table t) (body.Table u) g s z r = table_grows n t.fields.items u.fields.items (λ f i. contained u.fields.items f (g f (contains t.fields.items f i))) r z.names z.slots.whole
  body_grows n h (body.Table t) (body.Struct u) g s z r = absurd cc
  body_grows n h (body.Table t) (body.Enum u) g s z r = absurd cc
  body_grows n h (body.Table t) (body.Union u) g s z r = absurd cc
  body_grows n h (body.Struct t) c g s z r = same_stays n h (body.Struct t) c g s r
  body_grows n h (body.Enum t) c g s z r = same_stays n h (body.Enum t) c g s r
  body_grows n h (body.Union t) c g s z r = same_stays n h (body.Union t) c g s r

-- ---- schemas

identifier_stays : (w : Way) (o : _) → identifier_change w o o ≡ None
identifier_stays w None = refl
identifier_stays w (Some a) = ap (λ b. change_if (not b) change.IdentifierChanged) (bytes_are_same a.items)

module _ (w : Way) (old new : List Declared) (distinct : IsDistinct bytes_eq (map (λ d. d.name.items) new)) (grown : GrowAllTo old new)
    (sized : (n : ℕ) → SizedBelow (map body_in old) n) (sound : AreSound (map body_in new) 0 (map body_in new)) where
  root_stays : (o : Option ℕ) → IsNested (map body_in old) o → root_change (matches_of [] old new) o o ≡ None
  root_stays None r = refl
  root_stays (Some i) r = ap (λ b. change_if (not b) change.RootChanged) (stays old new distinct grown i (body.Table r.0) r.1)

  declared_grows : (n : ℕ) (d : Declared) → slice_get old n ≡ Some d → IsBody d.body → RefersBody (map body_in old) n d.body
      → declared_breaks w (matches_of [] old new) new n d ≡ []
  declared_grows n d e s r =
      let more = grown_at old new grown n d e in
      let known = sound_at (map body_in new) 0 (map body_in new) sound n more.0.body (slice_get-map body_in new n ∙ ap (λ o. option_map body_in o) more.1) in
      ap (λ o. body_breaks w (matches_of [] old new) n d.body (body_if new o)) (match_grown old new distinct grown n d e)
      ∙ ap (λ o. body_breaks w (matches_of [] old new) n d.body (body_of o)) more.1
      ∙ body_grows w (matches_of [] old new) (map body_in old) (stays old new distinct grown) n (sized n) d.body more.0.body more.3 s known.0 r

  all_grow : (n : ℕ) (rest : List Declared) → ((k : ℕ) (d : Declared) → slice_get rest k ≡ Some d → slice_get old (n + k) ≡ Some d)
      → AreSound (map body_in old) n (map body_in rest) → breaks_from w (matches_of [] old new) new n rest ≡ []
  all_grow n [] at s = refl
  all_grow n (d ∷ rest) at s =
      joined (declared_breaks w (matches_of [] old new) new n d) (breaks_from w (matches_of [] old new) new (n + 1) rest)
      (declared_grows n d (subst (λ k. slice_get old k ≡ Some d) (omega arith) (at 0 d refl)) s.0 s.1)
      (all_grow (n + 1) rest (λ k c e. subst (λ j. slice_get old j ≡ Some c) (omega arith) (at (suc k) c e)) s.2)

pub added_fields_break_nothing : AddedFieldsBreakNothing
added_fields_break_nothing w old new sound sound_new filled grown =
    let ds = old.declarations.items in
    let es = new.declarations.items in
    let m = matches_of [] ds es in
    let sized = sized_below (map body_in ds) sound.bodies (filled_at ds filled) in
    let root =
    subst (λ o. noted place.Root (root_change m old.statements.root o) ≡ []) grown.root
    (ap (noted place.Root) (root_stays w ds es sound_new.names grown.declarations sized sound_new.bodies old.statements.root sound.root)) in
    let identifier =
    subst (λ o. noted place.Identifier (identifier_change w old.statements.identifier o) ≡ []) grown.identifier
    (ap (noted place.Identifier) (identifier_stays w old.statements.identifier)) in
    joined (breaks_from w m es 0 ds ++ noted place.Root (root_change m old.statements.root new.statements.root)) (noted place.Identifier (identifier_change w old.statements.identifier new.statements.identifier))
    (joined (breaks_from w m es 0 ds) (noted place.Root (root_change m old.statements.root new.statements.root))
    (all_grow w ds es sound_new.names grown.declarations sized sound_new.bodies 0 ds (λ k d e. subst (λ j. slice_get ds j ≡ Some d) (omega arith) e) sound.bodies)
    root)
    identifier

body_grows_to_itself : (b : Body) → GrowsTo b b
body_grows_to_itself (body.Table t) = λ f h. h
body_grows_to_itself (body.Struct s) = refl
body_grows_to_itself (body.Enum e) = refl
body_grows_to_itself (body.Union u) = refl

all_grow_to_themselves : (ds : List Declared) → GrowAllTo ds ds
all_grow_to_themselves [] = tt
all_grow_to_themselves (d ∷ ds) = (refl, body_grows_to_itself d.body, all_grow_to_themselves ds)

pub unchanged_breaks_nothing : UnchangedBreaksNothing
unchanged_breaks_nothing w schema sound filled =
    added_fields_break_nothing w schema schema sound sound filled (record {
      declarations = all_grow_to_themselves schema.declarations.items;
      root = refl;
      identifier = refl;
    })
