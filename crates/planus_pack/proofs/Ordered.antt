-- Keys of the program, inserted in order.
use Rattle.std.proofs.Common.{◌≡◌, ℕ, List, [], ◌∷◌, map, refl, ap, Vec, Global}
use Rattle.std.specs.declared.cmp.Ordering.{Ordering}
use Rattle.std.specs.declared.cmp.Ordering.TheVariants.{Less, Equal, Greater}
use Rattle.std.specs.BTreeSet.{insert_key}
use Rattle.planus_pack.specs.Keys.{keyed_cmp, keyed_view}

abbrev pub Key : Type 0
Key = Vec ℕ Global × ℕ

abbrev key_cmp : Key → Key → Ordering
key_cmp x y = keyed_cmp (keyed_view x) (keyed_view y)

abbrev inserts : Key → List Key → Type 0
inserts k ks = map keyed_view (insert_key key_cmp ks k) ≡ insert_key keyed_cmp (map keyed_view ks) (keyed_view k)

by_order : (k x : Key) (xs : List Key) (o : Ordering) → key_cmp k x ≡ o → inserts k xs
    → inserts k (x ∷ xs)
by_order k x xs Less h others = rw h refl
by_order k x xs Equal h others = rw h refl
by_order k x xs Greater h others = rw h (ap (λ ks. keyed_view x ∷ ks) others)

pub insert_view : (k : Key) (ks : List Key) → inserts k ks
insert_view k [] = refl
insert_view k (x ∷ xs) = by_order k x xs (key_cmp k x) refl (insert_view k xs)
