use Rattle.std.proofs.Common.{refl, sym}
use Rattle.std.proofs.lemmas.Option.{slice_get-map}
use Rattle.planus_resolve.specs.Names.{head_of}
use Rattle.planus_resolve.proofs.kind.item_of_head.Goals as goal

pub returns-in-Some : goal.returns-in-Some
returns-in-Some c = let e = slice_get-map head_of c.args.heads.now c.args.index in let h = c.in-Some.ensures in rw (e, (sym h)) refl

pub returns-in-None : goal.returns-in-None
returns-in-None c = let e = slice_get-map head_of c.args.heads.now c.args.index in let h = c.in-None.ensures in rw (e, (sym h)) refl
