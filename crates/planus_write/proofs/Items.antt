-- The items of a vector, written one after another.
use Rattle.std.proofs.Common.{◌≡◌, ℕ, suc, ◌+◌, ◌-◌, ◌*◌, ◌<◌, List, [], ◌∷◌, ◌++◌, length, map}
use Rattle.std.proofs.Common.{take, drop, sym, ap, ◌∙◌, arith, append_assoc}
use Rattle.std.proofs.Common.{length-append, append-nil, drop-drop}
use Rattle.std.proofs.lemmas.List.{map-append, length-map, length-take-le}
use Rattle.std.proofs.Math.Seq.{take-append_seam, drop-append_seam}
use Rattle.planus_write.specs.Parts.{items_bytes}
use Rattle.planus_write.specs.Items.{Item}

pub items_more : (size place : ℕ) (items : List Item) (item : Item)
    → items_bytes size place (items ++ item ∷ []) ≡ items_bytes size place items ++ item (place - length items * size)
items_more size place [] item = append-nil (item place) ∙ ap item (let e : place ≡ place - 0 * size = omega arith in e)
items_more size place (first ∷ items) item =
    ap (λ bytes. first place ++ bytes) (items_more size (place - size) items item
    ∙ ap (λ at. items_bytes size (place - size) items ++ item at) (let e : place - size - length items * size ≡ place - (suc (length items)) * size = omega arith in e))
    ∙ sym (append_assoc (first place) (items_bytes size (place - size) items) (item (place - (suc (length items)) * size)))

module _ {V : Type 0} (encoding : V → Item) (size place : ℕ) (values : List V) (i : ℕ) (value : V) (at : ℕ) (bytes old before item behind : List ℕ) where
  abbrev written : ℕ → List ℕ
  written n = items_bytes size place (map encoding (take n values))

  module _ (at_is : at ≡ i * size) (counted : length (written i) ≡ i * size) (so_far : bytes ≡ written i ++ drop (i * size) old)
      (before_is : before ≡ take at bytes) (behind_is : behind ≡ drop size (drop at bytes)) (item_is : item ≡ encoding value (place - at)) (sized : length item ≡ size)
      (there : i < length values) (next : take (i + 1) values ≡ take i values ++ value ∷ []) where
    count : length (map encoding (take i values)) ≡ i
    count = simp (length-map) (length-take-le i values (omega (arith, there)))

    more : written (i + 1) ≡ written i ++ item
    more =
        ap (λ vs. items_bytes size place (map encoding vs)) next
        ∙ ap (items_bytes size place) (map-append encoding (take i values) (value ∷ []))
        ∙ items_more size place (map encoding (take i values)) (encoding value)
        ∙ ap (λ at. written i ++ encoding value at) (let c = count in let e : place - length (map encoding (take i values)) * size ≡ place - at = ap (λ n. place - n * size) c ∙ ap (λ n. place - n) (sym at_is) in e)
        ∙ ap (λ b. written i ++ b) (sym item_is)

    pub more_counted : length (written (i + 1)) ≡ (i + 1) * size
    more_counted = ap length more ∙ length-append (written i) item ∙ let c = counted in let s = sized in omega (arith, c, s)

    before_all : before ≡ written i
    before_all =
        before_is ∙ ap (λ n. take n bytes) (at_is ∙ sym counted) ∙ ap (take (length (written i))) so_far ∙ take-append_seam (written i) (drop (i * size) old)

    behind_all : behind ≡ drop ((i + 1) * size) old
    behind_all =
        behind_is ∙ ap (drop size) (ap (λ n. drop n bytes) (at_is ∙ sym counted) ∙ ap (drop (length (written i))) so_far ∙ drop-append_seam (written i) (drop (i * size) old))
        ∙ drop-drop-here
      where
        drop-drop-here : drop size (drop (i * size) old) ≡ drop ((i + 1) * size) old
        drop-drop-here = drop-drop size (i * size) old ∙ ap (λ n. drop n old) (let e : i * size + size ≡ (i + 1) * size = omega arith in e)

    pub more_written : before ++ (item ++ behind) ≡ written (i + 1) ++ drop ((i + 1) * size) old
    more_written =
        ap (λ b. b ++ (item ++ behind)) before_all ∙ ap (λ b. written i ++ (item ++ b)) behind_all
        ∙ sym (append_assoc (written i) item (drop ((i + 1) * size) old)) ∙ ap (λ b. b ++ drop ((i + 1) * size) old) (sym more)
