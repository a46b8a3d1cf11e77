-- Lists of items.
use Rattle.std.proofs.Common.{◌≡◌, ℕ, zero, suc, ◌≤◌, Bool, true, false, cond, List, [], ◌∷◌, ◌++◌, length, map, Result, Ok, Err, refl, sym, ap, subst, ◌∙◌, append_assoc, arith}
use Rattle.std.specs.List.{AllByRecursion}
use Rattle.std.proofs.lemmas.List.{append-nil}
use Rattle.planus_syntax.specs.Values.{Before, each_before}
use Rattle.planus_syntax.specs.declared.read_error.ReadError.{ReadError}
use Rattle.planus_syntax.specs.declared.read_error.ReadError.TheVariants as errors
use Rattle.planus_syntax.specs.Tokens.{Piece}
use Rattle.planus_syntax.specs.Counting.{EachCounted}
use Rattle.planus_syntax.specs.Reading.{Fault, Reads, ◌>>=◌, Fails, Looped, Takes, many, list_at, with_items}

pub bind_ok : {A B : Type 0} (r : Result A Fault) (f : A → Result B Fault) (y : B) → (r >>= f) ≡ Ok y → (x : A) × (r ≡ Ok x) × (f x ≡ Ok y)
bind_ok (Ok x) f y e = (x, refl, e)
bind_ok (Err d) f y e = absurd cc

abbrev pub ok : {A : Type 0} → A → Result A Fault
ok x = Ok x

pub ok_is : {A : Type 0} (x y : A) → ok x ≡ ok y → x ≡ y
ok_is x y e = cc

abbrev pub joined : {A : Type 0} → Bool → Reads A → (List Piece → Reads (List A)) → List Piece → Reads (List A)
joined b r more ps = cond b (r >>= λ x. more x.1 >>= λ xs. Ok (x.0 ∷ xs.0, xs.1)) (Ok ([], ps))

same_joined : {A : Type 0} (b : Bool) (r : Reads A) (f g : List Piece → Reads (List A)) (ps : List Piece) → ((x : A × List Piece) → r ≡ Ok x → f x.1 ≡ g x.1) → joined b r f ps ≡ joined b r g ps
same_joined true (Ok x) f g ps h = ap (λ more. more >>= λ xs. Ok (x.0 ∷ xs.0, xs.1)) (h x refl)
same_joined true (Err e) f g ps h = refl
same_joined false r f g ps h = refl

same_many : {A : Type 0} (goes : List Piece → Bool) (item : List Piece → Reads A) → Looped goes item → (n m : ℕ) (ps : List Piece) → length ps ≤ n → length ps ≤ m → many goes item n ps ≡ many goes item m ps
same_many goes item l zero zero ps h k = refl
same_many goes item l zero (suc m) [] h k = let e = l.none in rw e refl
same_many goes item l zero (suc m) (p ∷ ps) h k = absurd (omega arith)
same_many goes item l (suc n) zero [] h k = let e = l.none in rw e refl
same_many goes item l (suc n) zero (p ∷ ps) h k = absurd (omega arith)
same_many goes item l (suc n) (suc m) ps h k =
    same_joined (goes ps) (item ps) (many goes item n) (many goes item m) ps (λ x e. let s = l.shrinks ps x e in same_many goes item l n m x.1 (omega (arith, s)) (omega (arith, s)))

pub unroll : {A : Type 0} (goes : List Piece → Bool) (item : List Piece → Reads A) → Looped goes item → (ps : List Piece) → list_at goes item ps ≡ joined (goes ps) (item ps) (list_at goes item) ps
unfolding list_at
unroll goes item l [] = let e = l.none in rw e refl
unroll goes item l (p ∷ ps) =
    same_joined (goes (p ∷ ps)) (item (p ∷ ps)) (many goes item (length ps)) (list_at goes item) (p ∷ ps) (λ x e. let s = l.shrinks (p ∷ ps) x e in same_many goes item l (length ps) (length x.1) x.1 (omega (arith, s)) (omega arith))

regroup : {A : Type 0} (front : List A) (x : A) (read : Reads (List A)) → with_items front (read >>= λ xs. Ok (x ∷ xs.0, xs.1)) ≡ with_items (front ++ x ∷ []) read
regroup front x (Ok xs) = ap (λ ys. Ok (ys, xs.1)) (simp append_assoc)
regroup front x (Err e) = refl

pub no_items : {A : Type 0} (read : Reads (List A)) → with_items [] read ≡ read
no_items (Ok xs) = refl
no_items (Err e) = refl

pub goes_on : {A : Type 0} (goes : List Piece → Bool) (item : List Piece → Reads A) → Looped goes item → (front : List A) (ps : List Piece) (x : A) (after : List Piece) (total : Reads (List A)) → goes ps ≡ true → item ps ≡ Ok (x, after)
    → with_items front (list_at goes item ps) ≡ total → with_items (front ++ x ∷ []) (list_at goes item after) ≡ total
goes_on goes item l front ps x after total g e h =
    let one : list_at goes item ps ≡ (list_at goes item after >>= λ xs. Ok (x ∷ xs.0, xs.1)) = unroll goes item l ps ∙ ap (λ b. joined b (item ps) (list_at goes item) ps) g ∙ ap (λ r. joined true r (list_at goes item) ps) e in
    sym (regroup front x (list_at goes item after)) ∙ ap (with_items front) (sym one) ∙ h

failed : {A : Type 0} (e : ReadError) (front : List A) (r : Reads A) (more : List Piece → Reads (List A)) (ps : List Piece) → Fails e r → Fails e (with_items front (joined true r more ps))
failed errors.OutOfMemory front r more ps h = tt
failed (errors.Fault f left) front r more ps h = ap (λ x. with_items front (joined true x more ps)) h

pub ends : {A : Type 0} (goes : List Piece → Bool) (item : List Piece → Reads A) → Looped goes item → (e : ReadError) (front : List A) (ps : List Piece) (total : Reads (List A)) → goes ps ≡ true → Fails e (item ps)
    → with_items front (list_at goes item ps) ≡ total → Fails e total
ends goes item l e front ps total g h so_far =
    let one : list_at goes item ps ≡ joined true (item ps) (list_at goes item) ps = unroll goes item l ps ∙ ap (λ b. joined b (item ps) (list_at goes item) ps) g in
    subst (Fails e) (sym (ap (with_items front) one) ∙ so_far) (failed e front (item ps) (list_at goes item) ps h)

pub is_done : {A : Type 0} (goes : List Piece → Bool) (item : List Piece → Reads A) → Looped goes item → (front : List A) (ps : List Piece) (total : Reads (List A)) → goes ps ≡ false
    → with_items front (list_at goes item ps) ≡ total → total ≡ Ok (front, ps)
is_done goes item l front ps total g so_far =
    let one : list_at goes item ps ≡ Ok ([], ps) = unroll goes item l ps ∙ ap (λ b. joined b (item ps) (list_at goes item) ps) g in
    sym so_far ∙ ap (with_items front) one ∙ ap (λ ys. Ok (ys, ps)) (append-nil front)

abbrev pub ListTakes : {A : Type 0} → (List Piece → Bool) → Before A → List Piece → List A × List Piece → Type 0
ListTakes goes print ps x = (ps ≡ each_before print x.0 x.1) × (goes x.1 ≡ false)

many_step : {A : Type 0} (goes : List Piece → Bool) (item : List Piece → Reads A) (print : Before A) → Looped goes item → Takes item print → (n : ℕ) (ps : List Piece) (x : List A × List Piece)
    → ((after : List Piece) (y : List A × List Piece) → length after ≤ n → many goes item n after ≡ Ok y → ListTakes goes print after y)
    → length ps ≤ suc n → (b : Bool) → goes ps ≡ b → joined b (item ps) (many goes item n) ps ≡ Ok x → ListTakes goes print ps x
many_step goes item print l takes n ps x again h true g e =
    let a = bind_ok (item ps) (λ y. many goes item n y.1 >>= λ ys. Ok (y.0 ∷ ys.0, ys.1)) x e in
    let c = bind_ok (many goes item n a.0.1) (λ ys. Ok (a.0.0 ∷ ys.0, ys.1)) x a.2 in
    let t = takes ps a.0 a.1 in
    let s = l.shrinks ps a.0 a.1 in
    let u = again a.0.1 c.0 (omega (arith, s)) c.1 in
    let whole : ps ≡ each_before print (a.0.0 ∷ c.0.0) c.0.1 = t ∙ ap (λ r. print a.0.0 r) u.0 in
    subst (λ y. ListTakes goes print ps y) (ok_is (a.0.0 ∷ c.0.0, c.0.1) x c.2) (whole, u.1)
many_step goes item print l takes n ps x again h false g e =
    subst (λ y. ListTakes goes print ps y) (ok_is ([], ps) x e) (refl, g)

many_take : {A : Type 0} (goes : List Piece → Bool) (item : List Piece → Reads A) (print : Before A) → Looped goes item → Takes item print → (n : ℕ) (ps : List Piece) (x : List A × List Piece) → length ps ≤ n → many goes item n ps ≡ Ok x → ListTakes goes print ps x
many_take goes item print l takes zero [] x h e = subst (λ y. ListTakes goes print [] y) (ok_is ([], []) x e) (refl, l.none)
many_take goes item print l takes zero (p ∷ ps) x h e = absurd (omega arith)
many_take goes item print l takes (suc n) ps x h e = many_step goes item print l takes n ps x (λ after y. many_take goes item print l takes n after y) h (goes ps) refl e

pub list_takes : {A : Type 0} (goes : List Piece → Bool) (item : List Piece → Reads A) (print : Before A) → Looped goes item → Takes item print → (ps : List Piece) (x : List A × List Piece) → list_at goes item ps ≡ Ok x → ListTakes goes print ps x
unfolding list_at
list_takes goes item print l takes ps x e = many_take goes item print l takes (length ps) ps x (omega arith) e

pub record Again {A : Type 0} (goes : List Piece → Bool) (item : List Piece → Reads A) (print : Before A) (suits : List Piece → Bool) (whole : A → Bool) : Type 0 where
  pub again : (a : A) (rest : List Piece) → whole a ≡ true → suits rest ≡ true → item (print a rest) ≡ Ok (a, rest)
  pub begins : (a : A) (rest : List Piece) → (goes (print a rest) ≡ true) × (suits (print a rest) ≡ true)

pub suits_all : {A : Type 0} (goes : List Piece → Bool) (item : List Piece → Reads A) (print : Before A) (suits : List Piece → Bool) (whole : A → Bool) → Again goes item print suits whole → (xs : List A) (rest : List Piece) → suits rest ≡ true → suits (each_before print xs rest) ≡ true
suits_all goes item print suits whole g [] rest h = h
suits_all goes item print suits whole g (a ∷ xs) rest h = (g.begins a (each_before print xs rest)).1

pub list_again : {A : Type 0} (goes : List Piece → Bool) (item : List Piece → Reads A) (print : Before A) (suits : List Piece → Bool) (whole : A → Bool) → Looped goes item → Again goes item print suits whole
    → (xs : List A) (rest : List Piece) → AllByRecursion (λ a. whole a ≡ true) xs → goes rest ≡ false → suits rest ≡ true → list_at goes item (each_before print xs rest) ≡ Ok (xs, rest)
list_again goes item print suits whole l g [] rest w h s = unroll goes item l rest ∙ ap (λ b. joined b (item rest) (list_at goes item) rest) h
list_again goes item print suits whole l g (a ∷ xs) rest w h s =
    let tail = each_before print xs rest in
    let once : item (print a tail) ≡ Ok (a, tail) = g.again a tail w.0 (suits_all goes item print suits whole g xs rest s) in
    unroll goes item l (print a tail)
    ∙ ap (λ b. joined b (item (print a tail)) (list_at goes item) (print a tail)) (g.begins a tail).0
    ∙ ap (λ r. joined true r (list_at goes item) (print a tail)) once
    ∙ ap (λ r. r >>= λ ys. Ok (a ∷ ys.0, ys.1)) (list_again goes item print suits whole l g xs rest w.1 h s)

abbrev pub always : {A : Type 0} → A → Bool
always a = true

pub all_always : {A : Type 0} (xs : List A) → AllByRecursion (λ (a : A). always a ≡ true) xs
all_always [] = tt
all_always (x ∷ xs) = (refl, all_always xs)

-- the tokens of the items so far, before one more
one_more : {X V : Type 0} (view : X → V) (before : Before V) (xs : List X) (x : X) (rest after : List Piece) → rest ≡ before (view x) after
    → each_before before (map view xs) rest ≡ each_before before (map view (xs ++ x ∷ [])) after
one_more view before [] x rest after e = e
one_more view before (y ∷ ys) x rest after e = ap (before (view y)) (one_more view before ys x rest after e)

pub push_counted : {X V : Type 0} (counted : X → List Piece → Type 0) (view : X → V) (before : Before V) (xs : List X) (x : X) (rest after : List Piece)
    → EachCounted counted view before xs rest → rest ≡ before (view x) after → counted x after → EachCounted counted view before (xs ++ x ∷ []) after
push_counted counted view before [] x rest after h e k = (k, tt)
push_counted counted view before (y ∷ ys) x rest after h e k =
    (subst (counted y) (one_more view before ys x rest after e) h.0, push_counted counted view before ys x rest after h.1 e k)
