-- Buffers viewed one after another, each after its size.
use Rattle.std.proofs.Common.{◌≡◌, ◌≢◌, ℕ, Bool, List, [], ◌∷◌, length, refl, sym, subst, arith, inr}
use Rattle.std.specs.Prelude.{Option, Result, Ok, Err, IfOk, IfErr, codes}
use Rattle.std.specs.Io.KnownBytes.{Appends}
use Rattle.std.proofs.KnownBytes.{Keeps-refl}
use Rattle.planus_schema.specs.declared.schema.Schema.{Schema}
use Rattle.planus_dump.specs.declared.schemas.Schema.{Schema as Dumped}
use Rattle.planus_inspect.specs.Shown.{Shows}
use Rattle.planus_cli.specs.declared.streams.CallError.{CallError}
use Rattle.planus_cli.specs.declared.view.Viewing.{Viewing}
use Rattle.planus_cli.specs.SchemaTexts.{line_of}
use Rattle.planus_cli.specs.Viewing.{EndsEarly}
use Rattle.planus_cli.specs.Buffers.{Look, EndsSized, Views, ViewsAdvised, FailsAdvised, ViewsBytes, FailsViews, FailsBytes, look_by}

pub ended : (name bytes : List ℕ) (worst : ℕ) (before unsaid : Option (List ℕ)) → length bytes ≡ 0
    → EndsSized name bytes worst worst before before unsaid unsaid
ended name [] worst before unsaid none = (refl, Keeps-refl before, Keeps-refl unsaid)
ended name (b ∷ bs) worst before unsaid none = absurd (omega arith)

pub ended_early : (name bytes : List ℕ) (worst : ℕ) (before unsaid said : Option (List ℕ)) → length bytes ≢ 0
    → EndsEarly bytes → Appends unsaid said (line_of [] name (codes " ends before a buffer does"))
    → EndsSized name bytes worst 1 before before unsaid said
ended_early name [] worst before unsaid said some early told = absurd (some refl)
ended_early name (b ∷ bs) worst before unsaid said some early told = (refl, early, Keeps-refl before, told)

pub held : (look : Look) (bytes : List ℕ) (prefixed way : Bool) (r : Result ℕ CallError) (before after unsaid said : Option (List ℕ)) → prefixed ≡ way
    → IfOk r (λ status. Views way look bytes status before after unsaid said) → IfOk r (λ status. Views prefixed look bytes status before after unsaid said)
held look bytes prefixed way r before after unsaid said is h =
    subst (λ p. IfOk r (λ status. Views p look bytes status before after unsaid said)) (sym is) h

pub held_failed : (look : Look) (bytes : List ℕ) (prefixed way : Bool) (r : Result ℕ CallError) (before after unsaid said : Option (List ℕ)) → prefixed ≡ way
    → IfErr r (λ error. FailsViews way look bytes error before after unsaid said) → IfErr r (λ error. FailsViews prefixed look bytes error before after unsaid said)
held_failed look bytes prefixed way r before after unsaid said is h =
    subst (λ p. IfErr r (λ error. FailsViews p look bytes error before after unsaid said)) (sym is) h

pub viewed : (schema : Schema) (how : Viewing) (name bytes : List ℕ) (dumped : Dumped) (r : Result ℕ CallError) (before after unsaid said : Option (List ℕ))
    → Shows schema how.root dumped
    → IfOk r (λ status. ViewsAdvised how.size_prefixed (look_by schema dumped how.limits name) bytes status before after unsaid said)
    → IfOk r (λ status. ViewsBytes schema how name bytes status before after unsaid said)
viewed schema how name bytes dumped (Ok status) before after unsaid said shows h = record { dumped = dumped; shows = shows; views = h }
viewed schema how name bytes dumped (Err error) before after unsaid said shows h = tt

pub failed : (schema : Schema) (how : Viewing) (name bytes : List ℕ) (dumped : Dumped) (r : Result ℕ CallError) (before after unsaid said : Option (List ℕ))
    → Shows schema how.root dumped
    → IfErr r (λ error. FailsAdvised how.size_prefixed (look_by schema dumped how.limits name) bytes error before after unsaid said)
    → IfErr r (λ error. FailsBytes schema how name bytes error before after unsaid said)
failed schema how name bytes dumped (Ok status) before after unsaid said shows h = tt
failed schema how name bytes dumped (Err error) before after unsaid said shows h = inr (record { dumped = dumped; shows = shows; fails = h })
