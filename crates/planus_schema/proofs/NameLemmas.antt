-- Names that are found.
use Rattle.std.proofs.Common.{◌≡◌, ◌↔◌, ℕ, ◌+◌, ◌<◌, Bool, eqb, IsTrue, Option, Some, None, List, [], ◌∷◌, ◌++◌, length, take, get_or, sym, ap, ◌∙◌}
use Rattle.std.specs.Global.{Vec}
use Rattle.std.specs.Option.{option_eq}
use Rattle.std.proofs.lemmas.Bool.{eqb-true, eq-eqb}
use Rattle.std.specs.List.{list_any}
use Rattle.std.specs.Str.{bytes_eq}
use Rattle.std.proofs.lemmas.List.{map_push, take_more}
use Rattle.planus_schema.specs.Distinct.{items_of, is_in}
use Rattle.planus_schema.proofs.Lists.{list_any-map}

pub in_items : (names : List (Vec ℕ)) (name : List ℕ) → is_in (items_of names) name ≡ list_any (λ w. bytes_eq w.items name) names
in_items names name = list_any-map (λ w. bytes_eq w name) (λ (w : Vec ℕ). w.items) names

pub copied_more : (out words : List (Vec ℕ)) (i : ℕ) (word copy : Vec ℕ) → i < length words → word ≡ get_or words i word → copy.items ≡ word.items → items_of out ≡ items_of (take i words) → items_of (out ++ copy ∷ []) ≡ items_of (take (i + 1) words)
copied_more out words i word copy l w e h =
    let same : copy.items ≡ (get_or words i word).items = e ∙ ap (λ (v : Vec ℕ). v.items) w in
    map_push _ out copy ∙ ap (λ ns. ns ++ copy.items ∷ []) h ∙ ap (λ n. items_of (take i words) ++ n ∷ []) same
    ∙ sym (map_push _ (take i words) (get_or words i word)) ∙ ap items_of (sym (take_more words i word l))

pub first_is : (found : Option ℕ) (index : ℕ) (b : Bool) → b ≡ option_eq eqb found (Some index) → IsTrue b ↔ (found ≡ Some index)
first_is None index b e = (λ t. absurd cc, λ s. absurd cc)
first_is (Some n) index b e = (
  λ t. ap Some (eqb-true n index (sym e ∙ t)),
  λ s. let same : n ≡ index = cc in e ∙ eq-eqb n index same,
)
