-- Names of members, one after the other.
use Rattle.std.proofs.Common.{◌≡◌, ℕ, suc, ◌+◌, List, [], ◌∷◌, ◌++◌, map, drop, length, sym, ap, ◌∙◌, refl, arith, length-append, subst}
use Rattle.planus_schema.specs.Distinct.{items_of}
use Rattle.std.specs.Global.{Vec}
use Rattle.planus_schema.specs.declared.schema.Declared.{Declared}
use Rattle.std.specs.Prelude.{slice_get, Some}
use Rattle.std.proofs.lemmas.Option.{slice_get_within, get_or_from_slice_get}
use Rattle.planus_schema.proofs.Lists.{drop_next}
use Rattle.planus_schema.specs.Spelling.{scope_from, set_apart, names_in, all_member_names, member_names, member_word, said_in}

drop_at : (xs : List (List ℕ)) (i : ℕ) (x : List ℕ) → slice_get xs i ≡ Some x → drop i xs ≡ x ∷ drop (i + 1) xs
drop_at xs i x h = drop_next xs i x (slice_get_within xs i x h) (sym (get_or_from_slice_get xs i x x h))

-- a name of the schema, spelled and set apart, is the scope's next
pub next_name : (f : List ℕ → List ℕ) (names new said : List (List ℕ)) (i : ℕ) (word w : List ℕ) (whole : List (List ℕ)) → slice_get said i ≡ Some w → word ≡ f w → new ≡ names ++ set_apart names names word ∷ [] → scope_from names (map f (drop i said)) ≡ whole → scope_from new (map f (drop (i + 1) said)) ≡ whole
next_name f names new said i word w whole h e n before =
    rw (n, e) (sym (ap (λ ws. scope_from names (map f ws)) (drop_at said i w h)) ∙ before)

length_map : {A B : Type 0} (f : A → B) (xs : List A) → length (map f xs) ≡ length xs
length_map f [] = refl
length_map f (x ∷ xs) = ap suc (length_map f xs)

as_many : (names ws : List (List ℕ)) → length (scope_from names ws) ≡ length names + length ws
as_many names [] = omega arith
as_many names (w ∷ ws) =
    let more = as_many (names ++ set_apart names names w ∷ []) ws in
    let one = length-append names (set_apart names names w ∷ []) in
    omega (arith, more, one)

as_many_in : (m : Vec (Vec ℕ)) (d : Declared) → names_in m ≡ member_names d.body → length m.items ≡ length (said_in d.body)
as_many_in m d h =
    let own : length (names_in m) ≡ length m.items = length_map (λ w. w.items) m.items in
    let same : length (names_in m) ≡ length (member_names d.body) = ap length h in
    let all : length (member_names d.body) ≡ length (map (member_word d.body) (said_in d.body)) = let e = as_many [] (map (member_word d.body) (said_in d.body)) in omega (arith, e) in
    let said : length (map (member_word d.body) (said_in d.body)) ≡ length (said_in d.body) = length_map (member_word d.body) (said_in d.body) in
    sym own ∙ same ∙ all ∙ said

-- each declaration has as many names of members as members
pub as_many_in_each : (ms : List (Vec (Vec ℕ))) (ds : List Declared) → map names_in ms ≡ all_member_names ds → map (λ m. length m.items) ms ≡ map (λ d. length (said_in d.body)) ds
as_many_in_each [] [] h = refl
as_many_in_each [] (d ∷ ds) h = absurd cc
as_many_in_each (m ∷ ms) [] h = absurd cc
as_many_in_each (m ∷ ms) (d ∷ ds) h =
    let first : names_in m ≡ member_names d.body = cc in
    let others : map names_in ms ≡ all_member_names ds = cc in
    let one = as_many_in m d first in
    let rest = as_many_in_each ms ds others in
    rw (one, rest) refl

-- the same of a name of printed code
pub next_of : (f : List ℕ → List ℕ) (names new : List (List ℕ)) (rest after : List (Vec ℕ)) (first : Vec ℕ) (word said : List ℕ) (whole : List (List ℕ)) → rest ≡ first ∷ after → said ≡ first.items → word ≡ f said → new ≡ names ++ set_apart names names word ∷ [] → scope_from names (map f (items_of rest)) ≡ whole → scope_from new (map f (items_of after)) ≡ whole
next_of f names new rest after first word said whole r i e n before =
    let start : scope_from names (map f (items_of (first ∷ after))) ≡ whole = subst (λ xs. scope_from names (map f (items_of xs)) ≡ whole) r before in
    rw (n, e, i) start
