-- One more field of a struct.
use Rattle.std.proofs.Common.{◌≡◌, ℕ, ◌+◌, ◌<◌, ◌≤◌, max, true, false, List, [], ◌∷◌, ◌++◌, length, map, take, drop, get_or, suc, add-one, drop-cons, refl, sym, ap, subst, ◌∙◌, arith}
use Rattle.std.proofs.lemmas.List.{map_push}
use Rattle.std.proofs.lemmas.List.Sums.{fold-append}
use Rattle.std.proofs.lemmas.Bool.{le-leb, lt-leb}
use Rattle.std.proofs.lemmas.Bool.Decides.{nat_tests}
use Rattle.planus_schema.specs.declared.schema.StructField.{StructField}
use Rattle.std.proofs.lemmas.Grind.{common_steps}
use Rattle.std.specs.Prelude.{Option, Some, None, not, nat_le, ◌==◌}
use Rattle.std.specs.Option.{option_map}
use Rattle.planus_syntax.specs.Values.{Name, kind_of}
use Rattle.planus_syntax.specs.declared.value.Field.{Field}
use Rattle.planus_schema.specs.declared.measure.Measure.{Measure}
use Rattle.planus_schema.specs.declared.schema.Base.{Base}
use Rattle.planus_resolve.specs.declared.fault.FaultKind.TheVariants as fault
use Rattle.planus_resolve.specs.declared.fault.DeclarationError.{DeclarationError}
use Rattle.planus_resolve.specs.declared.fault.DeclarationError.TheVariants as declaration_error
use Rattle.planus_resolve.specs.Names.{HeadV, SpaceV, type_named}
use Rattle.planus_resolve.specs.Structs.{count_said}
use Rattle.planus_resolve.specs.Wrong.{Broken, broken, when, first, Stops}
use Rattle.planus_resolve.specs.WrongStructs.{is_empty, wrong_plain, wrong_measure, wrong_array, wrong_type, measure_among, items_among, measure_of_items, measure_in_type, known_count, count_or_none, wrong_struct_field, wrong_struct_fields, end_of, end_after, greatest_after, alignment_in, field_measure}
use Rattle.planus_resolve.proofs.FaultLemmas.{skip, passes, stops_first, stops_next, stops_now}
use Rattle.planus_schema.specs.Distinct.{Each2, is_in}
use Rattle.planus_schema.specs.Layouts.{IsNext, Laid, greatest_alignment}

pub each2_push : {A B : Type 0} (R : A → B → Type 0) (xs : List A) (ys : List B) (x : A) (y : B) → Each2 R xs ys → R x y → Each2 R (xs ++ x ∷ []) (ys ++ y ∷ [])
each2_push R [] [] x y h r = (r, tt)
each2_push R [] (b ∷ ys) x y h r = absurd h
each2_push R (a ∷ xs) [] x y h r = absurd h
each2_push R (a ∷ xs) (b ∷ ys) x y h r = (h.0, each2_push R xs ys x y h.1 r)

pub laid_push : (at : ℕ) (fs : List StructField) (end : ℕ) (f : StructField) → Laid at fs end → IsNext f.alignment end f.distance → Laid at (fs ++ f ∷ []) (f.distance + f.size)
laid_push at [] end f h n = (subst (λ e. IsNext f.alignment e f.distance) (sym h) n, refl)
laid_push at (g ∷ fs) end f h n = (h.0, laid_push (g.distance + g.size) fs end f h.1 n)

pub greatest_push : (fs : List StructField) (f : StructField) → greatest_alignment (fs ++ f ∷ []) ≡ max (greatest_alignment fs) f.alignment
greatest_push fs f = fold-append (λ n (g : StructField). max n g.alignment) 1 fs (f ∷ [])

pub map_next : {A B : Type 0} (f : A → B) (xs : List A) (i : ℕ) (x : A) → i < length xs → x ≡ get_or xs i x → map f (take (i + 1) xs) ≡ map f (take i xs) ++ f x ∷ []
map_next f xs i x h e = ap (map f) (take-snoc xs i x h e) ∙ map_push f (take i xs) x
  where
    take-snoc : {A : Type 0} (xs : List A) (i : ℕ) (x : A) → i < length xs → x ≡ get_or xs i x → take (i + 1) xs ≡ take i xs ++ x ∷ []
    take-snoc xs i x h e = grind (arith, common_steps)

pub drop_next : {A : Type 0} (xs : List A) (i : ℕ) (x : A) → i < length xs → x ≡ get_or xs i x → drop i xs ≡ x ∷ drop (i + 1) xs
drop_next xs i x h e = rw add-one (drop-cons xs i x h ∙ ap (λ y. y ∷ drop (suc i) xs) (sym e))

pub map_rest : {A B : Type 0} (f : A → B) (xs : List A) (i : ℕ) (x : A) → i < length xs → x ≡ get_or xs i x → map f (drop i xs) ≡ f x ∷ map f (drop (i + 1) xs)
map_rest f xs i x h e = ap (map f) (drop_next xs i x h e)

pub struct_field_stops : (hs : List HeadV) (space : SpaceV) (ms : List (Option Measure)) (at : ℕ) (names : List Name) (fs : List Field) (d : Field) (ds : List Field) (all : Option Broken) (s : DeclarationError) → fs ≡ d ∷ ds → wrong_struct_fields hs space ms at names fs ≡ all → Stops (wrong_struct_field hs space ms at d) s → Stops all s
struct_field_stops hs space ms at names fs d ds all s here same h =
    subst (λ o. Stops o s) (ap (wrong_struct_fields hs space ms at names) (sym here) ∙ same) (stops_first _ _ s h)

pub struct_name_stops : (hs : List HeadV) (space : SpaceV) (ms : List (Option Measure)) (at : ℕ) (names : List Name) (fs : List Field) (d : Field) (ds : List Field) (all : Option Broken) → fs ≡ d ∷ ds → wrong_struct_fields hs space ms at names fs ≡ all → wrong_struct_field hs space ms at d ≡ None → is_in names d.name.items ≡ true → Stops all (declaration_error.Wrong fault.FieldNameTaken d.left)
struct_name_stops hs space ms at names fs d ds all here same field used =
    subst (λ o. Stops o (declaration_error.Wrong fault.FieldNameTaken d.left)) (ap (wrong_struct_fields hs space ms at names) (sym here) ∙ same)
    (stops_next _ _ (declaration_error.Wrong fault.FieldNameTaken d.left) field (stops_now _ fault.FieldNameTaken d.left _ used))

pub struct_fields_next : (hs : List HeadV) (space : SpaceV) (ms : List (Option Measure)) (at : ℕ) (names : List Name) (fs : List Field) (d : Field) (ds : List Field) (all : Option Broken) (at' : ℕ) (names' : List Name) → fs ≡ d ∷ ds → wrong_struct_fields hs space ms at names fs ≡ all → wrong_struct_field hs space ms at d ≡ None → is_in names d.name.items ≡ false → at' ≡ end_of at (field_measure hs space ms d) → names' ≡ names ++ d.name.items ∷ [] → wrong_struct_fields hs space ms at' names' ds ≡ all
struct_fields_next hs space ms at names fs d ds all at' names' here same field new end named =
    rw (end, named) (sym (skip (when (is_in names d.name.items) fault.FieldNameTaken d.left) _ (passes _ fault.FieldNameTaken d.left new))
    ∙ sym (skip (wrong_struct_field hs space ms at d) _ field)
    ∙ ap (wrong_struct_fields hs space ms at names) (sym here) ∙ same)

pub end_next : (hs : List HeadV) (space : SpaceV) (ms : List (Option Measure)) (at : ℕ) (fs : List Field) (d : Field) (ds : List Field) (all at' : ℕ) → fs ≡ d ∷ ds → end_after hs space ms at fs ≡ all → at' ≡ end_of at (field_measure hs space ms d) → end_after hs space ms at' ds ≡ all
end_next hs space ms at fs d ds all at' here same end = rw end (ap (end_after hs space ms at) (sym here) ∙ same)

pub greatest_next : (hs : List HeadV) (space : SpaceV) (ms : List (Option Measure)) (n : ℕ) (fs : List Field) (d : Field) (ds : List Field) (all m n' : ℕ) → fs ≡ d ∷ ds → greatest_after hs space ms n fs ≡ all → n' ≡ max n m → m ≡ alignment_in (field_measure hs space ms d) → greatest_after hs space ms n' ds ≡ all
greatest_next hs space ms n fs d ds all m n' here same e is = rw (e, is) (ap (greatest_after hs space ms n) (sym here) ∙ same)

count_known : (f : Field) (count : Option ℕ) → count_said (kind_of f.kind) ≡ Some count → known_count f ≡ count
count_known f count e = ap count_or_none e

pub field_known : (hs : List HeadV) (space : SpaceV) (ms : List (Option Measure)) (at : ℕ) (f : Field) (b : Base) (count : Option ℕ) → wrong_plain hs space f ≡ None → type_named hs space (kind_of f.kind) ≡ Some (record { vector = false; base = b }) → wrong_array f f.kind ≡ None → count_said (kind_of f.kind) ≡ Some count
    → wrong_struct_field hs space ms at f ≡ first (wrong_measure b f.left (measure_among ms b)) (when (not (nat_le (end_of at (items_among ms count b)) 65535)) fault.StructTooLarge f.left)
field_known hs space ms at f b count p t a c =
    skip (wrong_plain hs space f) _ p ∙ skip (wrong_array f f.kind) _ a
    ∙ ap (λ n. wrong_type ms n at f.left (type_named hs space (kind_of f.kind))) (count_known f count c)
    ∙ ap (wrong_type ms count at f.left) t

pub array_stops : (hs : List HeadV) (space : SpaceV) (ms : List (Option Measure)) (at : ℕ) (f : Field) (s : DeclarationError) → wrong_plain hs space f ≡ None → Stops (wrong_array f f.kind) s → Stops (wrong_struct_field hs space ms at f) s
array_stops hs space ms at f s p h = stops_next _ _ s p (stops_first _ _ s h)

pub items_known : (ms : List (Option Measure)) (count : Option ℕ) (b : Base) (m : Measure) → measure_among ms b ≡ Some m → items_among ms count b ≡ Some (measure_of_items count m)
items_known ms count b m a = ap (option_map (measure_of_items count)) a

pub measure_known : (hs : List HeadV) (space : SpaceV) (ms : List (Option Measure)) (f : Field) (b : Base) (count : Option ℕ) (m : Measure) → type_named hs space (kind_of f.kind) ≡ Some (record { vector = false; base = b }) → count_said (kind_of f.kind) ≡ Some count → measure_among ms b ≡ Some m → field_measure hs space ms f ≡ Some (measure_of_items count m)
measure_known hs space ms f b count m t c a =
    ap (λ n. measure_in_type ms n (type_named hs space (kind_of f.kind))) (count_known f count c)
    ∙ ap (measure_in_type ms count) t ∙ items_known ms count b m a

pub ends_within : (at end left : ℕ) (o : Option Measure) (m : Measure) → o ≡ Some m → end ≡ end_of at (Some m) → end ≤ 65535 → when (not (nat_le (end_of at o) 65535)) fault.StructTooLarge left ≡ None
ends_within at end left o m e is h =
    ap (λ x. when (not (nat_le (end_of at x) 65535)) fault.StructTooLarge left) e
    ∙ ap (λ n. when (not (nat_le n 65535)) fault.StructTooLarge left) (sym is)
    ∙ ap (λ b. when (not b) fault.StructTooLarge left) (le-leb end 65535 h)

pub ends_after : (at end left : ℕ) (o : Option Measure) (m : Measure) → o ≡ Some m → end ≡ end_of at (Some m) → 65535 < end → when (not (nat_le (end_of at o) 65535)) fault.StructTooLarge left ≡ broken fault.StructTooLarge left
ends_after at end left o m e is h =
    ap (λ x. when (not (nat_le (end_of at x) 65535)) fault.StructTooLarge left) e
    ∙ ap (λ n. when (not (nat_le n 65535)) fault.StructTooLarge left) (sym is)
    ∙ ap (λ b. when (not b) fault.StructTooLarge left) (lt-leb end 65535 h)

pub empty_is : (fs : List Field) → is_empty fs ≡ (length fs == 0)
empty_is [] = refl
empty_is (f ∷ fs) = grind (arith, nat_tests)
