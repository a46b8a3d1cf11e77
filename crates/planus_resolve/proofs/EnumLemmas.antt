-- Names and values that are added.
use Rattle.std.proofs.Common.{◌≡◌, ℕ, Bool, true, false, List, [], ◌∷◌, ◌++◌, map, refl, sym, ap, subst, ◌∙◌, append_assoc}
use Rattle.std.specs.Prelude.{Option, Some, None, codes, if◌then◌else◌}
use Rattle.std.specs.List.{list_any, list_all, IsDistinct}
use Rattle.std.specs.Option.{option_map}
use Rattle.std.proofs.lemmas.List.{map_push, append-nil}
use Rattle.std.proofs.lemmas.List.Folds.{list_all-append}
use Rattle.planus_syntax.specs.Values.{Name, VariantV, names_of, digits_of, attribute_of}
use Rattle.planus_syntax.specs.declared.value.Enumeration.{Enumeration}
use Rattle.planus_syntax.specs.declared.value.Variant.{Variant}
use Rattle.planus_schema.specs.Distinct.{is_in, AreDistinct}
use Rattle.std.specs.Str.{bytes_eq}
use Rattle.planus_resolve.specs.declared.fault.FaultKind.TheVariants as fault
use Rattle.planus_resolve.specs.declared.fault.DeclarationError.{DeclarationError}
use Rattle.planus_resolve.specs.declared.fault.DeclarationError.TheVariants as declaration_error
use Rattle.planus_resolve.specs.Names.{has, listed, also_said}
use Rattle.planus_resolve.specs.Wrong.{Broken, broken, when, first, Stops}
use Rattle.planus_resolve.specs.WrongEnums.{wrong_value, wrong_values, wrong_names, wrong_enum}
use Rattle.planus_resolve.proofs.FaultLemmas.{skip, passes, stops_first, stops_now}
use Rattle.planus_schema.specs.declared.number.Number.{Number}
use Rattle.planus_schema.specs.declared.scalar.Scalar.{Scalar}
use Rattle.planus_schema.specs.declared.scalar.Scalar.TheVariants as scalar
use Rattle.planus_schema.specs.declared.schema.EnumValue.{EnumValue}
use Rattle.planus_schema.specs.Numbers.{fits}
use Rattle.planus_resolve.specs.Enums.{is_integer_type, same_number, number_of_value, number_said, settled_said, value_said, values_said, none_variant, variants_or_none, AreValues, IsValueAdded}
use Rattle.planus_schema.proofs.Lists.{distinct_push, distinct_none}

pub value_added : (s : Scalar) (v : VariantV) (n : Number) (old new : List EnumValue) (x : EnumValue) → new ≡ old ++ x ∷ [] → x.name.items ≡ v.name → names_of x.docs.items ≡ v.docs → x.number ≡ n → fits s n ≡ true → list_any (λ m. same_number m n) (map number_of_value old) ≡ false → IsValueAdded s v n old new
value_added s v n old new x e name docs number f h =
    let a : map number_of_value new ≡ map number_of_value old ++ n ∷ [] = ap (map number_of_value) e ∙ map_push number_of_value old x ∙ ap (λ w. map number_of_value old ++ w ∷ []) number in
    record {
      names = ap (map (λ (y : EnumValue). y.name.items)) e ∙ map_push _ old x ∙ ap (λ w. map (λ (y : EnumValue). y.name.items) old ++ w ∷ []) name;
      docs = ap (map (λ (y : EnumValue). names_of y.docs.items)) e ∙ map_push _ old x ∙ ap (λ w. map (λ (y : EnumValue). names_of y.docs.items) old ++ w ∷ []) docs;
      numbers = a;
      within = λ w. ap (list_all (λ (y : EnumValue). fits s y.number)) e ∙ list_all-append (λ (y : EnumValue). fits s y.number) old (x ∷ []) ∙ rw (w, number, f) refl;
      distinct = λ d. rw a (distinct_push same_number (map number_of_value old) n h d);
    }

pub no_values : (xs : List EnumValue) → xs ≡ [] → IsDistinct same_number (map number_of_value xs)
no_values xs e = rw e (distinct_none same_number)

pub before_none : {A : Type 0} (o : Option (List A)) → option_map (λ xs. [] ++ xs) o ≡ o
before_none None = refl
before_none (Some xs) = refl

numbers_moved : (front : List Number) (value : Number) (o : Option (List Number)) → option_map (λ ns. (front ++ value ∷ []) ++ ns) o ≡ option_map (λ ns. front ++ ns) (also_said (Some value) o)
numbers_moved front value None = refl
numbers_moved front value (Some ns) = ap Some (append_assoc front (value ∷ []) ns)

pub numbers_next : (flags : Bool) (previous : Option Number) (front : List Number) (vs : List VariantV) (v : VariantV) (rest : List VariantV) (all : Option (List Number)) (n value : Number) → vs ≡ v ∷ rest → option_map (λ ns. front ++ ns) (values_said flags previous vs) ≡ all → Some n ≡ number_said previous v.value → Some value ≡ settled_said flags n → option_map (λ ns. (front ++ value ∷ []) ++ ns) (values_said flags (Some n) rest) ≡ all
numbers_next flags previous front vs v rest all n value here same is e =
    numbers_moved front value (values_said flags (Some n) rest)
    ∙ ap (λ o. option_map (λ ns. front ++ ns) (also_said o (values_said flags (Some n) rest))) e
    ∙ ap (λ o. option_map (λ ns. front ++ ns) (also_said (value_said flags o) (values_said flags o rest))) is
    ∙ ap (λ ws. option_map (λ ns. front ++ ns) (values_said flags previous ws)) (sym here) ∙ same

pub numbers_end : (front : List Number) (all : Option (List Number)) → option_map (λ ns. front ++ ns) (Some []) ≡ all → all ≡ Some front
numbers_end front all e = sym e ∙ ap Some (append-nil front)

pub value_is : (flags : Bool) (previous : Option Number) (w : Option (List ℕ)) (n value : Number) → Some n ≡ number_said previous w → Some value ≡ settled_said flags n → value_said flags (number_said previous w) ≡ Some value
value_is flags previous w n value e f = ap (value_said flags) (sym e) ∙ sym f

pub value_stops : (s : Scalar) (flags : Bool) (previous : Option Number) (values : List Number) (vs : List Variant) (v : Variant) (rest : List Variant) (all : Option Broken) (o : Option Number) (e : DeclarationError) → vs ≡ v ∷ rest → wrong_values s flags previous values vs ≡ all → value_said flags (number_said previous (digits_of v.value)) ≡ o → Stops (wrong_value s values v o) e → Stops all e
value_stops s flags previous values vs v rest all o e here same said h =
    subst (λ w. Stops w e) (ap (wrong_values s flags previous values) (sym here) ∙ same)
    (stops_first _ _ e (subst (λ p. Stops (wrong_value s values v p) e) (sym said) h))

pub no_value_stops : (s : Scalar) (flags : Bool) (previous : Option Number) (values : List Number) (vs : List Variant) (v : Variant) (rest : List Variant) (all : Option Broken) → vs ≡ v ∷ rest → wrong_values s flags previous values vs ≡ all → value_said flags (number_said previous (digits_of v.value)) ≡ None → Stops all (declaration_error.Wrong fault.ValueOutOfRange v.left)
no_value_stops s flags previous values vs v rest all here same said =
    value_stops s flags previous values vs v rest all None (declaration_error.Wrong fault.ValueOutOfRange v.left) here same said refl

pub values_next : (s : Scalar) (flags : Bool) (previous : Option Number) (values : List Number) (vs : List Variant) (v : Variant) (rest : List Variant) (all : Option Broken) (n : Number) (value : Number) (values' : List Number) → vs ≡ v ∷ rest → wrong_values s flags previous values vs ≡ all → value_said flags (number_said previous (digits_of v.value)) ≡ Some value → wrong_value s values v (Some value) ≡ None → Some n ≡ number_said previous (digits_of v.value) → values' ≡ values ++ value ∷ [] → wrong_values s flags (Some n) values' rest ≡ all
values_next s flags previous values vs v rest all n value values' here same said none is added =
    ap (λ ws. wrong_values s flags (Some n) ws rest) (added ∙ ap (λ o. values ++ listed o) (sym said))
    ∙ ap (λ o. wrong_values s flags o (values ++ listed (value_said flags (number_said previous (digits_of v.value)))) rest) is
    ∙ sym (skip (wrong_value s values v (value_said flags (number_said previous (digits_of v.value)))) _ (ap (wrong_value s values v) said ∙ none))
    ∙ ap (wrong_values s flags previous values) (sym here) ∙ same

pub value_name_stops : (names : List Name) (vs : List Variant) (v : Variant) (rest : List Variant) (all : Option Broken) → vs ≡ v ∷ rest → wrong_names names vs ≡ all → is_in names v.name.items ≡ true → Stops all (declaration_error.Wrong fault.ValueNameTaken v.left)
value_name_stops names vs v rest all here same used =
    subst (λ o. Stops o (declaration_error.Wrong fault.ValueNameTaken v.left)) (ap (wrong_names names) (sym here) ∙ same)
    (stops_now _ fault.ValueNameTaken v.left _ used)

pub value_names_next : (names : List Name) (vs : List Variant) (v : Variant) (rest : List Variant) (all : Option Broken) (names' : List Name) → vs ≡ v ∷ rest → wrong_names names vs ≡ all → is_in names v.name.items ≡ false → names' ≡ names ++ v.name.items ∷ [] → wrong_names names' rest ≡ all
value_names_next names vs v rest all names' here same new named =
    ap (λ ns. wrong_names ns rest) named
    ∙ sym (skip (when (is_in names v.name.items) fault.ValueNameTaken v.left) _ (passes _ fault.ValueNameTaken v.left new))
    ∙ ap (wrong_names names) (sym here) ∙ same

pub untyped : (integer : Option Scalar) (e : Enumeration) → integer ≡ None → wrong_enum integer e ≡ broken fault.NoIntegerType e.base.left
untyped integer e h = rw h refl

pub typed : (integer : Option Scalar) (e : Enumeration) (s : Scalar) → integer ≡ Some s → wrong_enum integer e ≡ first (wrong_names [] e.variants.items) (wrong_values s (has (codes "bit_flags") (map attribute_of e.attributes.items)) None [] e.variants.items)
typed integer e s h = rw h refl

fits_flag : (s : Scalar) (flags : Bool) → is_integer_type s ≡ true → fits s (record { negative = false; magnitude = if flags then 1 else 0 }) ≡ true
fits_flag scalar.Bool true h = absurd cc
fits_flag scalar.Bool false h = absurd cc
fits_flag scalar.Byte true h = refl
fits_flag scalar.Byte false h = refl
fits_flag scalar.UByte true h = refl
fits_flag scalar.UByte false h = refl
fits_flag scalar.Short true h = refl
fits_flag scalar.Short false h = refl
fits_flag scalar.UShort true h = refl
fits_flag scalar.UShort false h = refl
fits_flag scalar.Int true h = refl
fits_flag scalar.Int false h = refl
fits_flag scalar.UInt true h = refl
fits_flag scalar.UInt false h = refl
fits_flag scalar.Long true h = refl
fits_flag scalar.Long false h = refl
fits_flag scalar.ULong true h = refl
fits_flag scalar.ULong false h = refl
fits_flag scalar.Float true h = absurd cc
fits_flag scalar.Float false h = absurd cc
fits_flag scalar.Double true h = absurd cc
fits_flag scalar.Double false h = absurd cc

none_said : (flags : Bool) → values_said flags None (none_variant ∷ []) ≡ Some (record { negative = false; magnitude = if flags then 1 else 0 } ∷ [])
none_said true = refl
none_said false = refl

pub none_are : (s : Scalar) (flags : Bool) (x : EnumValue) → x.name.items ≡ codes "NONE" → names_of x.docs.items ≡ [] → x.number ≡ record { negative = false; magnitude = if flags then 1 else 0 } → is_integer_type s ≡ true → AreValues s flags (none_variant ∷ []) (x ∷ [])
none_are s flags x name docs number h = record {
  names = ap (λ w. w ∷ []) name;
  docs = ap (λ w. w ∷ []) docs;
  numbers = none_said flags ∙ ap (λ n. Some (n ∷ [])) (sym number);
  within = rw (number, fits_flag s flags h) refl;
  distinct = distinct_push same_number [] x.number refl (distinct_none same_number);
}

pub distinct_or_none : (vs : List VariantV) → AreDistinct (map (λ (v : VariantV). v.name) vs) → AreDistinct (map (λ (v : VariantV). v.name) (variants_or_none vs))
distinct_or_none [] d = distinct_push bytes_eq [] (codes "NONE") refl d
distinct_or_none (v ∷ vs) d = d
