-- Faults that are added.
use Rattle.std.proofs.Common.{Bool, true, false, subst, ◌≡◌, ℕ, zero, suc, ◌<◌, ◌≤◌, List, [], ◌∷◌, ◌++◌, length, map, take, refl, sym, ap, ◌∙◌, append_assoc, arith, length-append}
use Rattle.std.proofs.lemmas.List.{take-append-le, take_all, append-nil}
use Rattle.planus_resolve.specs.declared.fault.Fault.{Fault}
use Rattle.planus_resolve.specs.declared.fault.ResolveError.{ResolveError}
use Rattle.planus_resolve.specs.declared.fault.ResolveError.TheVariants as error
use Rattle.planus_resolve.specs.inner.Read.{IsToldOf}
use Rattle.planus_resolve.specs.Schemas.{HoldsFaults}
use Rattle.std.specs.Prelude.{Result, Ok, Err, OnOk, Option, Some, None, not, nat_eq}
use Rattle.std.proofs.lemmas.Bool.Decides.{nat_tests}
use Rattle.planus_schema.specs.declared.measure.Measure.{Measure}
use Rattle.planus_resolve.specs.declared.fault.FaultKind.{FaultKind}
use Rattle.planus_resolve.specs.declared.fault.DeclarationError.{DeclarationError}
use Rattle.planus_resolve.specs.declared.fault.DeclarationError.TheVariants as declaration_error
use Rattle.planus_resolve.specs.Names.{is_set, head_of, heads_of}
use Rattle.planus_resolve.specs.Wrong.{Broken, when, first, Stops}
use Rattle.planus_resolve.specs.Faults.{IsExact, AreInOrder, first_twenty, Adds, fault_in, broken_in, is_index, measure_or_byte, placed_of, placed_from, name_faults, body_faults, file_faults, faults_found}
use Rattle.std.specs.Global.{Vec}
use Rattle.planus_syntax.specs.Values.{declarations_of}
use Rattle.planus_syntax.specs.declared.value.Declaration.{Declaration}
use Rattle.planus_resolve.specs.declared.head.Head.{Head}
use Rattle.planus_resolve.specs.Uses.{taken_otherwise}
use Rattle.planus_resolve.specs.WrongServices.{known_attributes}

capped : (n : ℕ) (a b : List Fault) → take n (take n a ++ b) ≡ take n (a ++ b)
capped zero a b = refl
capped (suc n) [] b = refl
capped (suc n) (x ∷ a) b = ap (λ xs. x ∷ xs) (capped n a b)

cut : (n : ℕ) (xs ys : List Fault) → length xs ≡ n → take n (xs ++ ys) ≡ xs
cut n xs ys h = take-append-le n xs ys (omega (arith, h)) ∙ take_all n xs (omega (arith, h))

pub adds_none : (xs : List Fault) → length xs ≤ 20 → xs ≡ first_twenty (xs ++ [])
unfolding first_twenty
adds_none xs h = sym (take_all 20 xs h) ∙ ap (take 20) (sym (append-nil xs))

pub adds_one : (xs : List Fault) (f : Fault) → length xs < 20 → xs ++ f ∷ [] ≡ first_twenty (xs ++ f ∷ [])
unfolding first_twenty
adds_one xs f h = sym (take_all 20 (xs ++ f ∷ []) (omega (arith, h, length-append xs (f ∷ []))))

pub adds_full : (xs : List Fault) (f : Fault) → length xs ≤ 20 → 20 ≤ length xs → xs ≡ first_twenty (xs ++ f ∷ [])
unfolding first_twenty
adds_full xs f h k = sym (cut 20 xs (f ∷ []) (omega (arith, h, k)))

pub adds_next : (old found new rest all : List Fault) → Adds found old new → first_twenty (old ++ (found ++ rest)) ≡ all → first_twenty (new ++ rest) ≡ all
unfolding first_twenty
adds_next old found new rest all e h =
    ap (λ xs. take 20 (xs ++ rest)) e ∙ capped 20 (old ++ found) rest ∙ ap (take 20) (append_assoc old found rest) ∙ h

pub adds_four : (a b c d : List Fault) (x y z w : List Fault) → Adds a [] x → Adds b x y → Adds c y z → Adds d z w → w ≡ first_twenty (a ++ (b ++ (c ++ d)))
adds_four a b c d x y z w e f g h =
    h ∙ adds_next y c z d (first_twenty (y ++ (c ++ d))) g refl
    ∙ adds_next x b y (c ++ d) (first_twenty (x ++ (b ++ (c ++ d)))) f refl
    ∙ adds_next [] a x (b ++ (c ++ d)) (first_twenty (a ++ (b ++ (c ++ d)))) e refl

pub adds_both : (a b x y z : List Fault) → Adds a x y → Adds b y z → Adds (a ++ b) x z
adds_both a b x y z e f = f ∙ adds_next x a y b (first_twenty (x ++ (a ++ b))) e refl

pub told_is : (o : Option Broken) (s : DeclarationError) → Stops o s → is_set (broken_in s) ≡ true → o ≡ broken_in s
told_is o declaration_error.OutOfMemory h t = absurd cc
told_is o (declaration_error.Wrong p l) h t = h

pub stops_first : (o p : Option Broken) (s : DeclarationError) → Stops o s → Stops (first o p) s
stops_first o p declaration_error.OutOfMemory h = tt
stops_first o p (declaration_error.Wrong q l) h = rw h refl

pub stops_next : (o p : Option Broken) (s : DeclarationError) → o ≡ None → Stops p s → Stops (first o p) s
stops_next o p s e h = subst (λ x. Stops (first x p) s) (sym e) h

pub stops_now : (b : Bool) (p : FaultKind) (left : ℕ) (o : Option Broken) → b ≡ true → Stops (first (when b p left) o) (declaration_error.Wrong p left)
stops_now b p left o e = rw e refl

pub skip : (o p : Option Broken) → o ≡ None → first o p ≡ p
skip o p e = rw e refl

pub passes : (b : Bool) (p : FaultKind) (left : ℕ) → b ≡ false → when b p left ≡ None
passes b p left e = rw e refl

pub first_stops : {A : Type 0} (W : List A → Option Broken) (o next : Option Broken) (xs : List A) (x : A) (rest : List A) (all : Option Broken) (s : DeclarationError) → xs ≡ x ∷ rest → W (x ∷ rest) ≡ first o next → W xs ≡ all → Stops o s → Stops all s
first_stops W o next xs x rest all s here is same h = subst (λ w. Stops w s) (sym is ∙ ap W (sym here) ∙ same) (stops_first o next s h)

pub told_now : {A : Type 0} (W : List A → Option Broken) (b : Bool) (p : FaultKind) (left : ℕ) (next : Option Broken) (xs : List A) (x : A) (rest : List A) (all : Option Broken) → xs ≡ x ∷ rest → W (x ∷ rest) ≡ first (when b p left) next → W xs ≡ all → b ≡ true → Stops all (declaration_error.Wrong p left)
told_now W b p left next xs x rest all here is same e =
    subst (λ w. Stops w (declaration_error.Wrong p left)) (sym is ∙ ap W (sym here) ∙ same) (stops_now b p left next e)

pub next_is : {A : Type 0} (W : List A → Option Broken) (o next : Option Broken) (xs : List A) (x : A) (rest : List A) (all : Option Broken) → xs ≡ x ∷ rest → W (x ∷ rest) ≡ first o next → W xs ≡ all → o ≡ None → next ≡ all
next_is W o next xs x rest all here is same none = sym (skip o next none) ∙ sym is ∙ ap W (sym here) ∙ same

pub name_used : (new used : Bool) → new ≡ false → new ≡ not used → used ≡ true
name_used new true e n = refl
name_used new false e n = absurd cc

pub name_new : (new used : Bool) → new ≡ true → new ≡ not used → used ≡ false
name_new new true e n = absurd cc
name_new new false e n = refl

pub adds_told : (file : ℕ) (o : Option Broken) (s : DeclarationError) (old new : List Fault) → Stops o s → is_set (broken_in s) ≡ true → Adds (fault_in file (broken_in s)) old new → Adds (fault_in file o) old new
adds_told file o s old new h t a = subst (λ x. Adds (fault_in file x) old new) (sym (told_is o s h t)) a

pub adds_nothing : (xs found : List Fault) → length xs ≤ 20 → found ≡ [] → Adds found xs xs
adds_nothing xs found h e = subst (λ ys. Adds ys xs xs) (sym e) (adds_none xs h)

pub no_fault : (file : ℕ) (o : Option Broken) → o ≡ None → fault_in file o ≡ []
no_fault file o e = rw e refl

pub first_of_name : (file : ℕ) (o : Option ℕ) (n : ℕ) (p : FaultKind) (l : ℕ) → o ≡ Some n → fault_in file (when (not (is_index o n)) p l) ≡ []
first_of_name file o n p l e = rw (e, same n) refl
  where
    same : (n : ℕ) → nat_eq n n ≡ true
    same n = grind (arith, nat_tests)

pub byte_told : (o : Option Broken) (s : DeclarationError) (m b : Option Measure) → Stops o s → is_set (broken_in s) ≡ true → measure_or_byte o m b ≡ b
byte_told o declaration_error.OutOfMemory m b h t = absurd cc
byte_told o (declaration_error.Wrong p l) m b h t = rw h refl

pub sound_told : (o : Option Broken) (m b : Option Measure) → o ≡ None → measure_or_byte o m b ≡ m
sound_told o m b h = rw h refl

pub ok_anyway : {T E : Type 0} (r : Result T E) (P : Type 0) → P → OnOk r P
ok_anyway (Ok x) P p = p
ok_anyway (Err e) P p = tt

pub no_faults : {P : Type 0} (xs : List Fault) → 0 < length xs → xs ≡ [] → P
no_faults [] h e = absurd (omega (arith, h))
no_faults (x ∷ xs) h e = absurd cc

pub exactly_told : (files : List (Vec Declaration)) (found : List Fault) (r : ResolveError) → found ≡ faults_found files → IsToldOf found r → IsExact files r
exactly_told files found error.OutOfMemory e h = tt
exactly_told files found (error.Faults v) e h = subst (λ fs. AreInOrder fs v.items) e h.0

pub error_told : (found : List Fault) (r : ResolveError) → IsToldOf found r → HoldsFaults r
error_told found error.OutOfMemory h = tt
error_told found (error.Faults v) h = h.1

pub all_found : (files : List (Vec Declaration)) (hs : List Head) (start x y z w : List Fault) → start ≡ [] → map head_of hs ≡ heads_of (map (λ f. declarations_of f.items) files) → map placed_of hs ≡ placed_from 0 files → Adds (name_faults (map head_of hs) 0 (map placed_of hs)) start x → Adds (body_faults (map head_of hs) [] (map placed_of hs)) x y → Adds (file_faults (map head_of hs) (known_attributes files) 0 0 files) y z → Adds (taken_otherwise (map head_of hs) files) z w → w ≡ faults_found files
all_found files hs start x y z w s h p a b c d =
    let names = name_faults (map head_of hs) 0 (map placed_of hs) in
    let first = subst (λ xs. Adds names xs x) s a in
    adds_four names (body_faults (map head_of hs) [] (map placed_of hs)) (file_faults (map head_of hs) (known_attributes files) 0 0 files) (taken_otherwise (map head_of hs) files) x y z w first b c d
    ∙ ap (λ gs. first_twenty (name_faults gs 0 (map placed_of hs) ++ (body_faults gs [] (map placed_of hs) ++ (file_faults gs (known_attributes files) 0 0 files ++ taken_otherwise gs files)))) h
    ∙ ap (λ ps. first_twenty (name_faults (heads_of (map (λ f. declarations_of f.items) files)) 0 ps ++ (body_faults (heads_of (map (λ f. declarations_of f.items) files)) [] ps ++ (file_faults (heads_of (map (λ f. declarations_of f.items) files)) (known_attributes files) 0 0 files ++ taken_otherwise (heads_of (map (λ f. declarations_of f.items) files)) files)))) p
