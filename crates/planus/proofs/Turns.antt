-- Parts placed in turn take the fewest bytes.
use Rattle.std.proofs.Common.{◌≡◌, ℕ, ◌+◌, List, [], ◌∷◌, ◌++◌, length, refl, sym, ap, ◌∙◌, subst}
use Rattle.std.proofs.Common.{arith}
use Rattle.std.specs.List.{AllByRecursion}
use Rattle.planus_back.specs.Promises.{Promise, IsPowerOfTwo, Keep}
use Rattle.planus_back.specs.Padding.{promise_of, IsLeastPadding}
use Rattle.planus_back.specs.Parts.{Part, Written, Placed}
use Rattle.planus_back.specs.Placings.{PlacedInTurn, LieInOrder, promises_at}
use Rattle.planus_back.proofs.Places.{least_places}
use Rattle.planus.specs.FinishHolds.{IsFewest}
use Rattle.planus.proofs.Lists.{all_push}

abbrev end_of : ℕ → List ℕ → ℕ
end_of n [] = n
end_of n (place ∷ places) = end_of place places

abbrev promised_by : List Promise → List Part → List ℕ → List Promise
promised_by promises [] places = promises
promised_by promises (part ∷ parts) [] = promises
promised_by promises (part ∷ parts) (place ∷ places) = promised_by (promise_of place part.alignment ∷ promises) parts places

pub record InTurn (written : Written) (parts : List Part) (places : List ℕ) : Type 0 where
  pub powers : AllByRecursion (λ (part : Part). IsPowerOfTwo part.alignment) parts
  pub turns : PlacedInTurn 0 [] parts places
  pub ended : end_of 0 places ≡ length written.bytes
  pub promised : promised_by [] parts places ≡ written.promises

end_push : (n : ℕ) (places : List ℕ) (place : ℕ) → end_of n (places ++ place ∷ []) ≡ place
end_push n [] place = refl
end_push n (x ∷ places) place = end_push x places place

promised_push : (n : ℕ) (promises : List Promise) (parts : List Part) (places : List ℕ) (part : Part) (place : ℕ) → PlacedInTurn n promises parts places
    → promised_by promises (parts ++ part ∷ []) (places ++ place ∷ []) ≡ promise_of place part.alignment ∷ promised_by promises parts places
promised_push n promises [] [] part place h = refl
promised_push n promises (x ∷ parts) (y ∷ places) part place h = promised_push y (promise_of y x.alignment ∷ promises) parts places part place h.1
promised_push n promises [] (y ∷ places) part place h = absurd h
promised_push n promises (x ∷ parts) [] part place h = absurd h

turns_push : (n : ℕ) (promises : List Promise) (parts : List Part) (places : List ℕ) (part : Part) (padding place : ℕ) → place ≡ end_of n places + padding + part.size
    → IsLeastPadding (end_of n places) (promised_by promises parts places) part.size part.alignment padding → PlacedInTurn n promises parts places
    → PlacedInTurn n promises (parts ++ part ∷ []) (places ++ place ∷ [])
turns_push n promises [] [] part padding place is_place least h = ((padding, is_place, least), tt)
turns_push n promises (x ∷ parts) (y ∷ places) part padding place is_place least h = (h.0, turns_push y (promise_of y x.alignment ∷ promises) parts places part padding place is_place least h.1)
turns_push n promises [] (y ∷ places) part padding place is_place least h = absurd h
turns_push n promises (x ∷ parts) [] part padding place is_place least h = absurd h

module _ (part : Part) (before after : Written) (placed : Placed part before after) (at_end : length after.bytes ≡ placed.place) (parts : List Part) (places : List ℕ) (h : InTurn before parts places) where
  here : PlacedInTurn 0 [] (parts ++ part ∷ []) (places ++ placed.place ∷ [])
  here = turns_push 0 [] parts places part placed.padding placed.place
      (placed.is_place ∙ ap (λ n. n + placed.padding + part.size) (sym h.ended))
      (subst (λ n. IsLeastPadding n (promised_by [] parts places) part.size part.alignment placed.padding) (sym h.ended)
      (subst (λ ps. IsLeastPadding (length before.bytes) ps part.size part.alignment placed.padding) (sym h.promised) placed.is_least)) h.turns

  pub turn_taken : IsPowerOfTwo part.alignment → InTurn after (parts ++ part ∷ []) (places ++ placed.place ∷ [])
  turn_taken power = record {
    powers = all_push (λ (p : Part). IsPowerOfTwo p.alignment) parts part h.powers power;
    turns = here;
    ended = end_push 0 places placed.place ∙ sym at_end;
    promised = promised_push 0 [] parts places part placed.place h.turns ∙ ap (λ ps. promise_of placed.place part.alignment ∷ ps) h.promised ∙ sym placed.promises;
  }

in_order : (n : ℕ) (promises : List Promise) (parts : List Part) (places : List ℕ) → PlacedInTurn n promises parts places → LieInOrder n parts places
in_order n promises [] [] h = tt
in_order n promises (part ∷ parts) (place ∷ places) h =
    let at : place ≡ n + h.0.0 + part.size = h.0.1 in (omega (arith, at), in_order place (promise_of place part.alignment ∷ promises) parts places h.1)
in_order n promises [] (place ∷ places) h = absurd h
in_order n promises (part ∷ parts) [] h = absurd h

keeps_each : (n : ℕ) (promises : List Promise) (parts : List Part) (places : List ℕ) (L : ℕ) → PlacedInTurn n promises parts places → Keep (promised_by promises parts places) L
    → Keep promises L × Keep (promises_at parts places) L
keeps_each n promises [] [] L h keep = (keep, tt)
keeps_each n promises (part ∷ parts) (place ∷ places) L h keep =
    let both = keeps_each place (promise_of place part.alignment ∷ promises) parts places L h.1 keep in (both.0.1, (both.0.0, both.1))
keeps_each n promises [] (place ∷ places) L h keep = absurd h
keeps_each n promises (part ∷ parts) [] L h keep = absurd h

pub fewest : (written : Written) (parts : List Part) (earlier : List ℕ) (place : ℕ) → place ≡ length written.bytes → Keep written.promises (length written.bytes)
    → InTurn written parts (earlier ++ place ∷ []) → IsFewest parts (earlier ++ place ∷ []) written.bytes
fewest written parts earlier place at_end keep h = record {
  placing = record {
    in_order = in_order 0 [] parts (earlier ++ place ∷ []) h.turns;
    kept = (length written.bytes, (keeps_each 0 [] parts (earlier ++ place ∷ []) (length written.bytes) h.turns (subst (λ ps. Keep ps (length written.bytes)) (sym h.promised) keep)).1);
  };
  whole = (earlier, ap (λ n. earlier ++ n ∷ []) at_end);
  least = λ others placing. least_places parts (earlier ++ place ∷ []) others placing.kept.0 h.powers h.turns placing.in_order placing.kept.1;
}
