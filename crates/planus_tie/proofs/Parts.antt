-- Entries that are added in turn.
use Rattle.std.proofs.Common.{◌≡◌, ◌∙◌, ap, sym, ℕ, ◌+◌, ◌<◌, List, [], ◌∷◌, ◌++◌, length, take, drop, get_or, append_assoc, drop-cons, add-one}
use Rattle.std.specs.Prelude.{Result, Ok, Err, OnOk}
use Rattle.std.specs.List.{flat_map}
use Rattle.planus_schema.specs.declared.plan.Line.{Line}
use Rattle.planus_tie.specs.Wanted.{part_text, parts_text}
use Rattle.planus_tie.specs.declared.groups.Entry.{Entry}
use Rattle.planus_tie.specs.declared.naming.Naming.{Naming}

after_entry : (n : Naming) (es : List Entry) (e : Entry) (rest left mid : List Line) (old out : List ℕ) → out ≡ old ++ part_text n e.group mid → mid ≡ take e.count rest → left ≡ drop e.count rest → out ++ parts_text n es left ≡ old ++ parts_text n (e ∷ es) rest
after_entry n es e rest left mid old out h m r =
    rw (h, m, r) (append_assoc old (part_text n e.group (take e.count rest)) (parts_text n es (drop e.count rest)))

pub entry_added : (n : Naming) (es : List Entry) (i : ℕ) (d : Entry) (rest left mid : List Line) (old out all : List ℕ) → i < length es → out ≡ old ++ part_text n (get_or es i d).group mid → mid ≡ take (get_or es i d).count rest → left ≡ drop (get_or es i d).count rest → old ++ parts_text n (drop i es) rest ≡ all → out ++ parts_text n (drop (i + 1) es) left ≡ all
entry_added n es i d rest left mid old out all l h m r a =
    let next : drop i es ≡ get_or es i d ∷ drop (i + 1) es = rw add-one (drop-cons es i d l) in
    after_entry n (drop (i + 1) es) (get_or es i d) rest left mid old out h m r
    ∙ ap (λ xs. old ++ parts_text n xs rest) (sym next) ∙ a

-- the text of an item is added to those of the items before it
pub text_added : {A : Type 0} (f : A → List ℕ) (xs : List A) (i : ℕ) (d one : A) (first old new : List ℕ) → i < length xs → one ≡ get_or xs i d → new ≡ old ++ f one → old ++ flat_map f (drop i xs) ≡ first ++ flat_map f xs → new ++ flat_map f (drop (i + 1) xs) ≡ first ++ flat_map f xs
text_added f xs i d one first old new l is h a =
    let next : drop i xs ≡ get_or xs i d ∷ drop (i + 1) xs = rw add-one (drop-cons xs i d l) in
    ap (λ t. t ++ flat_map f (drop (i + 1) xs)) h
    ∙ append_assoc old (f one) (flat_map f (drop (i + 1) xs))
    ∙ ap (λ x. old ++ (f x ++ flat_map f (drop (i + 1) xs))) is
    ∙ ap (λ t. old ++ flat_map f t) (sym next) ∙ a

-- two texts are added one after the other
pub both_added : (old mid new a b : List ℕ) → mid ≡ old ++ a → new ≡ mid ++ b → new ≡ old ++ (a ++ b)
both_added old mid new a b m n = n ∙ ap (λ t. t ++ b) m ∙ append_assoc old a b

-- a text is added, and then another one where memory allows
pub then_added : {A E : Type 0} (r : Result A E) (old mid new a b : List ℕ) → mid ≡ old ++ a → OnOk r (new ≡ mid ++ b) → OnOk r (new ≡ old ++ (a ++ b))
then_added (Err e) old mid new a b m n = tt
then_added (Ok v) old mid new a b m n = both_added old mid new a b m n

-- a text is added to none
pub added_to_none : (first new a : List ℕ) → first ≡ [] → new ≡ first ++ a → new ≡ a
added_to_none first new a f h = h ∙ ap (λ t. t ++ a) f

-- three texts are added to none
pub three_added : (first mid next new a b e : List ℕ) → first ≡ [] → mid ≡ first ++ a → next ≡ mid ++ b → new ≡ next ++ e → new ≡ a ++ (b ++ e)
three_added first mid next new a b e f m n h =
    both_added mid next new b e n h ∙ ap (λ t. t ++ (b ++ e)) (m ∙ ap (λ t. t ++ a) f)
