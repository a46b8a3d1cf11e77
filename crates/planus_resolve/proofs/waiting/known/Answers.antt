use Rattle.std.proofs.Common.{ℕ, ◌∷◌, List, map, ap, ◌∙◌}
use Rattle.std.specs.Prelude.{Option}
use Rattle.planus_syntax.specs.Values.{names_of}
use Rattle.planus_resolve.specs.declared.awaited.Awaited.{Awaited}
use Rattle.planus_resolve.specs.Names.{head_of, space_of, found_by, is_known, used_as}
use Rattle.planus_resolve.specs.Uses.{waiting_of, meaning_at}
use Rattle.planus_resolve.proofs.waiting.known.Goals as goal

pub returns : goal.returns
returns c =
    let hs = map head_of c.args.heads.now in
    let u = c.args.usage.now in
    let w = c.args.waiting.now in
    let f : List (Option Awaited) → Option ℕ = λ xs. found_by hs (is_known hs w.begun xs) (used_as u.wanted) (space_of u.spot.space) (u.first.now ∷ names_of u.more.now) in
    c.meaning_at.ensures ∙ ap (meaning_at (waiting_of w)) (c.in-Ok.ensures ∙ ap f c.deref.ensures.value)
