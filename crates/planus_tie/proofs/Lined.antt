-- Fields of tables that are added in turn.
use Rattle.std.proofs.Common.{◌≡◌, ◌∙◌, ap, sym, refl, subst, ℕ, ◌+◌, ◌<◌, ◌≤◌, List, [], ◌∷◌, ◌++◌, length, drop, get_or, append_assoc, drop-cons, add-one}
use Rattle.std.proofs.lemmas.List.{append-nil, drop_all}
use Rattle.std.specs.List.Sorted.{IsPermutation, IsNonDecreasingBy}
use Rattle.planus_schema.specs.declared.schema.Declared.{Declared}
use Rattle.planus_schema.specs.declared.schema.Table.{Table}
use Rattle.planus_schema.specs.Plans.{IsPlan}
use Rattle.planus_schema.specs.declared.plan.Line.{Line}
use Rattle.planus_schema.specs.declared.plan.Plan.{Plan}
use Rattle.planus_tie.specs.Shapes.{AreBySlot, AreLines, BodyLines, PushesLines}

pub lines_added : (ds : List Declared) (k i : ℕ) (d one : Declared) (old new : List Line) → k < length ds → i ≡ k → one ≡ get_or ds k d → PushesLines ds i one.body old new → ((rest : List Line) → AreLines ds k (drop k ds) rest → AreLines ds 0 ds (old ++ rest)) → (rest : List Line) → AreLines ds (k + 1) (drop (k + 1) ds) rest → AreLines ds 0 ds (new ++ rest)
lines_added ds k i d one old new l same is (mine, (b, e)) h rest a =
    let next : drop k ds ≡ get_or ds k d ∷ drop (k + 1) ds = rw add-one (drop-cons ds k d l) in
    let found : BodyLines ds k (get_or ds k d).body mine = subst (λ o. BodyLines ds k o.body mine) is (subst (λ n. BodyLines ds n one.body mine) same b) in
    let here : AreLines ds k (get_or ds k d ∷ drop (k + 1) ds) (mine ++ rest) = (mine, (rest, (found, a, refl))) in
    let there : AreLines ds k (drop k ds) (mine ++ rest) = subst (λ xs. AreLines ds k xs (mine ++ rest)) (sym next) here in
    let after : new ++ rest ≡ old ++ (mine ++ rest) = ap (λ xs. xs ++ rest) e ∙ append_assoc old mine rest in
    subst (λ xs. AreLines ds 0 ds xs) (sym after) (h (mine ++ rest) there)

pub lines_done : (ds : List Declared) (k : ℕ) (items : List Line) → length ds ≤ k → ((rest : List Line) → AreLines ds k (drop k ds) rest → AreLines ds 0 ds (items ++ rest)) → AreLines ds 0 ds items
lines_done ds k items l h =
    let none : AreLines ds k [] [] = refl in
    let last : AreLines ds k (drop k ds) [] = subst (λ xs. AreLines ds k xs []) (sym (drop_all k ds l)) none in
    subst (λ xs. AreLines ds 0 ds xs) (append-nil items) (h [] last)

pub by_slot_of : (ds : List Declared) (i : ℕ) (one : Table) (plan : Plan) (given copied lines : List Line) → IsPlan ds i one.fields.items plan → copied ≡ given → given ≡ plan.lines.items → IsPermutation copied lines → IsNonDecreasingBy (λ l. l.field.now.slot) lines → AreBySlot ds i one lines
by_slot_of ds i one plan given copied lines p e g o r = record {
  plan = plan;
  planned = p;
  once = subst (λ xs. IsPermutation xs lines) (e ∙ g) o;
  rises = r;
}
