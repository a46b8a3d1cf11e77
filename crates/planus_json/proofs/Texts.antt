-- What the reader of strings returns.
use Rattle.std.proofs.Common.{◌≡◌, ℕ, List, [], ◌∷◌, Ok, Err, Result, Bool, true, false, refl, sym, ap, ◌∙◌}
use Rattle.std.specs.Prelude.{if◌then◌else◌}
use Rattle.std.specs.Borrow.{Bor}
use Rattle.planus_read.specs.declared.errors.ErrorKind.{ErrorKind}
use Rattle.planus_read.specs.Clauses.{Answer, shown}
use Rattle.planus_read.specs.Slices.{ShowsBytes}
use Rattle.planus_read.specs.Reading.{text_reading}
use Rattle.planus_read.proofs.Reading.{text_holds}
use Rattle.planus_dump.specs.AsRead.{SaysAsRead}
use Rattle.planus_dump.specs.Answers.{leaf_at}
use Rattle.planus_dump.specs.Lines.{quoted}
use Rattle.planus_dump.specs.Tests.{Test, answered, text_tests, content_at, fault_text}
use Rattle.planus_dump.specs.ReadingViews.{answer_seen}
use Rattle.planus_dump.specs.declared.values.Leaf.TheVariants as leaves
use Rattle.planus_json.specs.Trees.{text_at}

pass_alike : (ts : List Test) (x y z : List ℕ) → answered ts x ≡ Ok z → answered ts y ≡ Ok y
pass_alike [] x y z e = refl
pass_alike (t ∷ ts) x y z e = step t.passes e (pass_alike ts x y z)
  where
    step : (b : Bool) → (if b then answered ts x else Err t.fault) ≡ Ok z → (answered ts x ≡ Ok z → answered ts y ≡ Ok y) → (if b then answered ts y else Err t.fault) ≡ Ok y
    step true e rest = rest e
    step false e rest = cc

fail_alike : (ts : List Test) (x y m : List ℕ) → answered ts x ≡ Err m → answered ts y ≡ Err m
fail_alike [] x y m e = cc
fail_alike (t ∷ ts) x y m e = step t.passes e (fail_alike ts x y m)
  where
    step : (b : Bool) → (if b then answered ts x else Err t.fault) ≡ Err m → (answered ts x ≡ Err m → answered ts y ≡ Err m) → (if b then answered ts y else Err t.fault) ≡ Err m
    step true e rest = rest e
    step false e rest = e

pub text_answer : (S : List ℕ) (f : ℕ) → SaysAsRead (text_reading S f) quoted (leaf_at leaves.Text S f) → (r : Result (Bor (List ℕ)) ErrorKind) → Answer (shown ShowsBytes (text_reading S f)) r → answer_seen (λ text. text.now) r ≡ text_at S f
text_answer S f said (Ok text) (content, there, is) =
    let passes : text_at S f ≡ Ok (content_at S f) = pass_alike (text_tests S f) (quoted (content_at S f)) (content_at S f) (quoted content) (said.answer (Ok content) there) in
    ap Ok (is ∙ (text_holds S f content there).1) ∙ sym passes
text_answer S f said (Err e) h = sym (fail_alike (text_tests S f) (quoted (content_at S f)) (content_at S f) (fault_text e) (said.answer (Err e) h))
