-- What is told of breaks, and renames.
use Rattle.std.proofs.Common.{◌≡◌, ℕ, Bool, List, [], ◌∷◌, ◌++◌, map, refl, sym, ap, ◌∙◌, append-nil, append_assoc}
use Rattle.std.specs.Borrow.{Bor}
use Rattle.planus_conform.specs.declared.breaks.Break.{Break}
use Rattle.planus_conform.specs.declared.rename.Rename.{Rename}
use Rattle.planus_cli.specs.declared.meaning.Meaning.{Meaning}
use Rattle.planus_cli.specs.Conforming.{IsRenameOf, AreRenamesOf}
use Rattle.planus_cli.specs.Telling.{TellsBreak, TellsBreaks}

-- one more break
pub breaks_push : (json : Bool) (rs : List Rename) (old new : Meaning) (bs : List Break) (one : Break) (out report more : List ℕ)
    → TellsBreaks json rs old new bs out → TellsBreak json rs old new one report → more ≡ out ++ report
    → TellsBreaks json rs old new (bs ++ one ∷ []) more
breaks_push json rs old new [] one out report more none is added = record {
  first = report;
  rest = [];
  is = is;
  are = refl;
  joined = added ∙ ap (λ xs. xs ++ report) none ∙ sym (append-nil report);
}
breaks_push json rs old new (b ∷ bs) one out report more j is added = record {
  first = j.first;
  rest = j.rest ++ report;
  is = j.is;
  are = breaks_push json rs old new bs one j.rest report (j.rest ++ report) j.are is refl;
  joined = added ∙ ap (λ xs. xs ++ report) j.joined ∙ append_assoc j.first j.rest report;
}

-- one more rename
pub renames_push : (ws : List (Bor (List ℕ))) (rs : List Rename) (w : Bor (List ℕ)) (r : Rename)
    → AreRenamesOf (map (λ x. x.now) ws) rs → IsRenameOf w.now r → AreRenamesOf (map (λ x. x.now) (ws ++ w ∷ [])) (rs ++ r ∷ [])
renames_push [] [] w r are is = (is, tt)
renames_push [] (q ∷ rs) w r are is = absurd are
renames_push (v ∷ ws) [] w r are is = absurd are
renames_push (v ∷ ws) (q ∷ rs) w r are is = (are.0, renames_push ws rs w r are.1 is)
