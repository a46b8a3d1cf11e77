use Rattle.std.proofs.Common.{◌≡◌, ◌++◌, map, subst}
use Rattle.std.specs.Prelude.{OnOk}
use Rattle.planus_syntax.specs.declared.value.Path.{Path}
use Rattle.planus_resolve.specs.Names.{UsedAs, used_as}
use Rattle.planus_resolve.specs.Uses.{event_of, spot_of, path_used}
use Rattle.planus_resolve.specs.WrongUnions.{target_path}
use Rattle.planus_resolve.proofs.uses.put_member.Goals as goal

pub returns : goal.returns
returns c =
    let s = spot_of c.args.spot in
    let old = map event_of c.args.out.now.items in
    let new = map event_of c.put_path.new.out.items in
    subst (λ (w : UsedAs). OnOk c.put_path.result (new ≡ old ++ path_used s w (target_path c.args.member.now))) c.wanted_of.ensures
    (subst (λ (p : Path). OnOk c.put_path.result (new ≡ old ++ path_used s (used_as c.wanted_of.result) p)) c.target_of.ensures.place c.put_path.ensures)
