-- One more field of a table.
use Rattle.std.proofs.Common.{Bool, false, ◌≡◌, ℕ, ◌+◌, ◌<◌, ◌≤◌, length, get_or, true, arith, List, [], ◌∷◌, ◌++◌, refl, sym, ap, subst, ◌∙◌, append_assoc, map}
use Rattle.std.specs.Prelude.{if◌then◌else◌, Option, Some, None, not, ◌&&◌, ◌||◌, nat_le, codes}
use Rattle.std.specs.List.{list_all}
use Rattle.planus_syntax.specs.Values.{Name, field_of, kind_of, attribute_of, names_of}
use Rattle.planus_syntax.specs.declared.value.Attribute.{Attribute}
use Rattle.planus_syntax.specs.declared.value.Field.{Field}
use Rattle.planus_resolve.specs.declared.fault.FaultKind.TheVariants as fault
use Rattle.planus_resolve.specs.Names.{HeadV, SpaceV, has, type_named, attribute_named}
use Rattle.planus_resolve.specs.Wrong.{Broken, when, first, Stops}
use Rattle.planus_resolve.specs.declared.fault.DeclarationError.{DeclarationError}
use Rattle.planus_resolve.specs.declared.fault.DeclarationError.TheVariants as declaration_error
use Rattle.planus_resolve.proofs.FaultLemmas.{skip, passes, stops_first, stops_next, stops_now}
use Rattle.planus_resolve.specs.WrongTables.{wrong_field_type, wrong_slot, wrong_default, wrong_nested, wrong_law, wrong_typed, field_type, field_slot, slots_at, slots_from, wrong_field, wrong_fields, names_in, are_among}
use Rattle.planus_schema.specs.Slots.{slots_of, slots_taken}
use Rattle.std.proofs.lemmas.List.{append-nil}
use Rattle.std.proofs.lemmas.List.Folds.{list_all-append}
use Rattle.planus_schema.specs.declared.schema.FieldType.{FieldType}
use Rattle.planus_schema.specs.declared.schema.TableField.{TableField}
use Rattle.planus_schema.specs.Slots.{Follow, width}
use Rattle.planus_schema.specs.Slots.{is_union}
use Rattle.planus_schema.specs.Distinct.{is_in}
use Rattle.std.specs.Global.{Vec}
use Rattle.std.proofs.lemmas.List.{get_or-map}
use Rattle.std.proofs.Math.ListN.{length-map, get_or-map as get_or-same}
use Rattle.planus_resolve.specs.Tables.{all_names, names_for, names_taken, is_lawful, is_required, type_name}

pub follow_push : (at : ℕ) (fs : List TableField) (end : ℕ) (f : TableField) → Follow at fs end → f.slot + 1 ≡ end + width f.kind → Follow at (fs ++ f ∷ []) (end + width f.kind)
follow_push at [] end f h e = (e ∙ ap (λ n. n + width f.kind) (sym h), ap (λ n. n + width f.kind) h)
follow_push at (g ∷ fs) end f h e = (h.0, follow_push (at + width g.kind) fs end f h.1 e)

pub names_push : (fs : List TableField) (f : TableField) → all_names (fs ++ f ∷ []) ≡ all_names fs ++ names_taken f
names_push [] f = append-nil (names_taken f)
names_push (g ∷ fs) f = ap (λ ns. names_taken g ++ ns) (names_push fs f) ∙ sym (append_assoc (names_taken g) (all_names fs) (names_taken f))

pub lawful_push : (fs : List TableField) (f : TableField) → list_all is_lawful fs ≡ true → is_lawful f ≡ true → list_all is_lawful (fs ++ f ∷ []) ≡ true
lawful_push fs f h e = list_all-append is_lawful fs (f ∷ []) ∙ rw (h, e) refl

slots_push : (fs : List TableField) (f : TableField) → slots_taken (fs ++ f ∷ []) ≡ slots_taken fs ++ slots_of f
slots_push [] f = append-nil (slots_of f)
slots_push (g ∷ fs) f = ap (λ ns. slots_of g ++ ns) (slots_push fs f) ∙ sym (append_assoc (slots_of g) (slots_taken fs) (slots_of f))

pub slots_next : (hs : List HeadV) (space : SpaceV) (ids : Bool) (next : ℕ) (fs : List TableField) (f : TableField) (d : Field) (rest ds : List Field) (all : List ℕ) → rest ≡ d ∷ ds → f.kind ≡ field_type hs space d → f.slot ≡ field_slot f.kind ids next d → slots_taken fs ++ slots_from hs space ids next rest ≡ all → slots_taken (fs ++ f ∷ []) ++ slots_from hs space ids (next + width f.kind) ds ≡ all
slots_next hs space ids next fs f d rest ds all r k s h =
    let t = field_type hs space d in
    let here : slots_of f ≡ slots_at t (field_slot t ids next d) = ap (slots_at f.kind) s ∙ ap (λ u. slots_at u (field_slot u ids next d)) k in
    ap (λ ns. ns ++ slots_from hs space ids (next + width f.kind) ds) (slots_push fs f)
    ∙ append_assoc (slots_taken fs) (slots_of f) (slots_from hs space ids (next + width f.kind) ds)
    ∙ ap (λ ns. slots_taken fs ++ (ns ++ slots_from hs space ids (next + width f.kind) ds)) here
    ∙ ap (λ u. slots_taken fs ++ (slots_at t (field_slot t ids next d) ++ slots_from hs space ids (next + width u) ds)) k
    ∙ ap (λ fs'. slots_taken fs ++ slots_from hs space ids next fs') (sym r) ∙ h

-- the fields after those before, in a table
pub record Left (hs : List HeadV) (space : SpaceV) (ids : Bool) (next : ℕ) (key : Bool) (names : List Name) (fs : List Field) (d : Field) (ds : List Field) (all : Option Broken) : Type 0 where
  pub here : fs ≡ d ∷ ds
  pub low : nat_le next 65535 ≡ true
  pub field : wrong_field hs space ids next d ≡ None
  pub same : wrong_fields hs space ids next key names fs ≡ all

-- the fault after this field, which takes these names
abbrev pub after_field : List HeadV → SpaceV → Bool → ℕ → Bool → List Name → TableField → Field → List Field → Option Broken
after_field hs space ids next key names f d ds =
    first (when (are_among names (names_taken f)) fault.FieldNameTaken d.left)
    (first (when (f.key && key) fault.SecondKey d.left)
    (wrong_fields hs space ids (next + width f.kind) (key || f.key) (names ++ names_taken f) ds))

pub after_is : (hs : List HeadV) (space : SpaceV) (ids : Bool) (next : ℕ) (key : Bool) (names : List Name) (fs : List Field) (d : Field) (ds : List Field) (all : Option Broken) (f : TableField) → Left hs space ids next key names fs d ds all → f.kind ≡ field_type hs space d → f.key ≡ has (codes "key") (field_of d).attributes → names_taken f ≡ names_in (field_type hs space d) d → after_field hs space ids next key names f d ds ≡ all
after_is hs space ids next key names fs d ds all f l k is n =
    let low : not (nat_le next 65535) ≡ false = ap not l.low in
    ap (λ ns. first (when (are_among names ns) fault.FieldNameTaken d.left) (first (when (f.key && key) fault.SecondKey d.left) (wrong_fields hs space ids (next + width f.kind) (key || f.key) (names ++ ns) ds))) n
    ∙ ap (λ q. first (when (are_among names (names_in (field_type hs space d) d)) fault.FieldNameTaken d.left) (first (when (q && key) fault.SecondKey d.left) (wrong_fields hs space ids (next + width f.kind) (key || q) (names ++ names_in (field_type hs space d) d) ds))) is
    ∙ ap (λ u. first (when (are_among names (names_in (field_type hs space d) d)) fault.FieldNameTaken d.left) (first (when (has (codes "key") (field_of d).attributes && key) fault.SecondKey d.left) (wrong_fields hs space ids (next + width u) (key || has (codes "key") (field_of d).attributes) (names ++ names_in (field_type hs space d) d) ds))) k
    ∙ sym (skip (wrong_field hs space ids next d) _ l.field) ∙ sym (skip (when (not (nat_le next 65535)) fault.TooManySlots d.left) _ (passes _ fault.TooManySlots d.left low))
    ∙ ap (wrong_fields hs space ids next key names) (sym l.here) ∙ l.same

pub slot_stops : (hs : List HeadV) (space : SpaceV) (ids : Bool) (next : ℕ) (key : Bool) (names : List Name) (fs : List Field) (d : Field) (ds : List Field) (all : Option Broken) → fs ≡ d ∷ ds → nat_le next 65535 ≡ false → wrong_fields hs space ids next key names fs ≡ all → Stops all (declaration_error.Wrong fault.TooManySlots d.left)
slot_stops hs space ids next key names fs d ds all here high same =
    subst (λ o. Stops o (declaration_error.Wrong fault.TooManySlots d.left)) (ap (wrong_fields hs space ids next key names) (sym here) ∙ same)
    (stops_now _ fault.TooManySlots d.left _ (ap not high))

pub field_stops : (hs : List HeadV) (space : SpaceV) (ids : Bool) (next : ℕ) (key : Bool) (names : List Name) (fs : List Field) (d : Field) (ds : List Field) (all : Option Broken) (s : DeclarationError) → fs ≡ d ∷ ds → nat_le next 65535 ≡ true → wrong_fields hs space ids next key names fs ≡ all → Stops (wrong_field hs space ids next d) s → Stops all s
field_stops hs space ids next key names fs d ds all s here low same h =
    subst (λ o. Stops o s) (ap (wrong_fields hs space ids next key names) (sym here) ∙ same)
    (stops_next _ _ s (passes _ fault.TooManySlots d.left (ap not low)) (stops_first _ _ s h))

one_by_one : (a b c : Option Broken) → first a (first b c) ≡ first (first a b) c
one_by_one None b c = refl
one_by_one (Some x) b c = refl

pub names_stop : (hs : List HeadV) (space : SpaceV) (ids : Bool) (next : ℕ) (key : Bool) (names : List Name) (f : TableField) (d : Field) (ds : List Field) (all : Option Broken) (s : DeclarationError) → after_field hs space ids next key names f d ds ≡ all → Stops (first (when (are_among names (names_taken f)) fault.FieldNameTaken d.left) (when (f.key && key) fault.SecondKey d.left)) s → Stops all s
names_stop hs space ids next key names f d ds all s is h =
    let a = when (are_among names (names_taken f)) fault.FieldNameTaken d.left in
    let b = when (f.key && key) fault.SecondKey d.left in
    let c = wrong_fields hs space ids (next + width f.kind) (key || f.key) (names ++ names_taken f) ds in
    subst (λ o. Stops o s) (sym (one_by_one a b c) ∙ is) (stops_first (first a b) c s h)

pub nothing_wrong : (hs : List HeadV) (space : SpaceV) (ids : Bool) (next : ℕ) (key : Bool) (names : List Name) (d : Field) (ds : List Field) (all : Option Broken) (f : TableField) (names' : List Name) (key' : Bool) (next' : ℕ) → after_field hs space ids next key names f d ds ≡ all → are_among names (names_taken f) ≡ false → (f.key && key) ≡ false → names' ≡ names ++ names_taken f → key' ≡ (key || f.key) → next' ≡ next + width f.kind → wrong_fields hs space ids next' key' names' ds ≡ all
nothing_wrong hs space ids next key names d ds all f names' key' next' h a b n k w =
    rw (n, k, w) (sym (skip (when (f.key && key) fault.SecondKey d.left) _ (passes _ fault.SecondKey d.left b))
    ∙ sym (skip (when (are_among names (names_taken f)) fault.FieldNameTaken d.left) _ (passes _ fault.FieldNameTaken d.left a)) ∙ h)

pub names_are : (f : TableField) (d : Field) (t : FieldType) → f.kind ≡ t → f.name.items ≡ d.name.items → names_taken f ≡ names_in t d
names_are f d t k n = ap (λ u. names_for u f.name.items) k ∙ ap (names_for t) n

pub typed_is : (hs : List HeadV) (space : SpaceV) (ids : Bool) (next : ℕ) (f : Field) (t : FieldType) → wrong_field_type hs space f ≡ None → type_named hs space (kind_of f.kind) ≡ Some t → wrong_field hs space ids next f ≡ wrong_typed hs space ids next f (Some t)
typed_is hs space ids next f t k n = skip (wrong_field_type hs space f) _ k ∙ ap (wrong_typed hs space ids next f) n

abbrev pub field_law : FieldType → Field → Option Broken
field_law t f = wrong_law (is_required t (field_of f)) (has (codes "key") (field_of f).attributes) (has (codes "nested_flatbuffer") (field_of f).attributes) t f.left

pub law_left : (hs : List HeadV) (space : SpaceV) (ids : Bool) (next : ℕ) (f : Field) (t : FieldType) → wrong_slot t ids next f ≡ None → wrong_default hs t f.left f.default ≡ None → wrong_nested hs space (attribute_named (codes "nested_flatbuffer") f.attributes.items) ≡ None → wrong_typed hs space ids next f (Some t) ≡ field_law t f
law_left hs space ids next f t a b c = skip (wrong_slot t ids next f) _ a ∙ skip (wrong_default hs t f.left f.default) _ b ∙ skip (wrong_nested hs space (attribute_named (codes "nested_flatbuffer") f.attributes.items)) _ c

pub law_is : (f : Field) (t : FieldType) (required key nested : Bool) (ks ns : List Attribute) → required ≡ is_required t (field_of f) → key ≡ has (codes "key") (map attribute_of ks) → ks ≡ f.attributes.items → nested ≡ has (codes "nested_flatbuffer") (map attribute_of ns) → ns ≡ f.attributes.items → wrong_law required key nested t f.left ≡ field_law t f
law_is f t required key nested ks ns r k a n b = rw (r, k, a, n, b) refl

same_or_no : (b : Bool) → b ≡ (b || false)
same_or_no true = refl
same_or_no false = refl

union_names : (t : FieldType) (w : Name) → is_union t ≡ true → type_name w ∷ w ∷ [] ≡ names_for t w
union_names t w u = rw u refl

own_name : (t : FieldType) (w : Name) → is_union t ≡ false → w ∷ [] ≡ names_for t w
own_name t w u = rw u refl

pub type_used : (t : FieldType) (w : Name) (old : List Name) → is_union t ≡ true → is_in old (type_name w) ≡ true → false ≡ not (are_among old (names_for t w))
type_used t w old u e = rw (u, e) refl

pub one_new : (t : FieldType) (w : Name) (old : List Name) (new : Bool) → is_union t ≡ false → new ≡ not (is_in old w) → new ≡ not (are_among old (names_for t w))
one_new t w old new u e = e ∙ ap not (same_or_no (is_in old w)) ∙ ap (λ ns. not (are_among old ns)) (own_name t w u)

pub two_new : (t : FieldType) (w : Name) (old : List Name) (new : Bool) → is_union t ≡ true → is_in old (type_name w) ≡ false → new ≡ not (is_in (old ++ type_name w ∷ []) w) → new ≡ not (are_among old (names_for t w))
two_new t w old new u f e =
    e ∙ ap not (same_or_no (is_in (old ++ type_name w ∷ []) w))
    ∙ ap (λ b. not (b || (is_in (old ++ type_name w ∷ []) w || false))) (sym f)
    ∙ ap (λ ns. not (are_among old ns)) (union_names t w u)

pub one_taken : (t : FieldType) (w : Name) (old : List Name) → is_union t ≡ false → old ++ w ∷ [] ≡ old ++ names_for t w
one_taken t w old u = ap (λ ns. old ++ ns) (own_name t w u)

pub two_taken : (t : FieldType) (w : Name) (old : List Name) → is_union t ≡ true → (old ++ type_name w ∷ []) ++ w ∷ [] ≡ old ++ names_for t w
two_taken t w old u = append_assoc old (type_name w ∷ []) (w ∷ []) ∙ ap (λ ns. old ++ ns) (union_names t w u)

pub as_many : (ns : List (Vec ℕ)) (fs : List Field) → names_of ns ≡ map (λ g. type_name g.name.items) fs → length ns ≡ length fs
as_many ns fs e = sym (length-map ns _) ∙ ap length e ∙ length-map fs _

pub type_name_at : (ns : List (Vec ℕ)) (fs : List Field) (i : ℕ) (n : Vec ℕ) (f : Field) → names_of ns ≡ map (λ g. type_name g.name.items) fs → i < length fs → n ≡ get_or ns i n → f ≡ get_or fs i f → n.items ≡ type_name f.name.items
type_name_at ns fs i n f e l a b =
    ap (λ (v : Vec ℕ). v.items) a ∙ sym (get_or-same (λ (v : Vec ℕ). v.items) ns i n)
    ∙ ap (λ ws. get_or ws i n.items) e ∙ get_or-map (λ (g : Field). type_name g.name.items) fs i f n.items l ∙ ap (λ (g : Field). type_name g.name.items) (sym b)

one_or_two : (b : Bool) → (if b then 2 else 1) ≤ 2
one_or_two true = omega arith
one_or_two false = omega arith

pub width_small : (t : FieldType) → width t ≤ 2
width_small t = one_or_two (is_union t)
