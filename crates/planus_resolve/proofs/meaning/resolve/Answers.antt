use Rattle.std.proofs.Common.{ap, ◌∙◌, map}
use Rattle.std.proofs.lemmas.Result.{IfOk-weaker, IfErr-weaker}
use Rattle.planus_syntax.specs.Values.{declarations_of}
use Rattle.planus_resolve.specs.Names.{head_of}
use Rattle.planus_resolve.specs.Faults.{placed_of}
use Rattle.planus_resolve.proofs.SoundLemmas.{sound}
use Rattle.planus_resolve.proofs.WithinLemmas.{exact_within}
use Rattle.planus_resolve.proofs.meaning.resolve.Goals as goal

pub meaning_of-requires-clause-heads : goal.meaning_of-requires-clause-heads
meaning_of-requires-clause-heads c = ap (map head_of) (c.in-Ok-new.ensures ∙ c.deref.ensures.value) ∙ c.in-Ok.ensures.heads

pub meaning_of-requires-clause-placed : goal.meaning_of-requires-clause-placed
meaning_of-requires-clause-placed c = ap (map placed_of) (c.in-Ok-new.ensures ∙ c.deref.ensures.value) ∙ c.in-Ok.ensures.placed

pub returns-clause-sound : goal.returns-clause-sound
returns-clause-sound c =
    IfOk-weaker c.meaning_of.result _ _ (λ s m. sound (map (λ f. declarations_of f.items) c.args.files.now) s m) c.meaning_of.ensures.means

pub returns-clause-within : goal.returns-clause-within
returns-clause-within c = IfErr-weaker c.meaning_of.result _ _ (λ e x. exact_within c.args.files.now e x) c.meaning_of.ensures.exact
