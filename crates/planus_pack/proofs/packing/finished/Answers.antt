use Rattle.std.proofs.Common.{◌≡◌, ◌+◌, ◌-◌, ◌∙◌, sym, ap, subst, map, length, refl, arith, rules, ◌∷◌, ◌++◌, []}
use Rattle.std.proofs.lemmas.List.{length-map, map_push}
use Rattle.planus_write.specs.View.{settings_of}
use Rattle.planus.specs.Steps.{bare_step}
use Rattle.planus.specs.Replays.{finish_given}
use Rattle.planus.specs.FinishHolds.{IsFinishOf, AreFinishesOf, finishes_of}
use Rattle.planus_pack.specs.Packs as spec
use Rattle.planus_pack.proofs.Finishes.{last_of, same_last, not_empty}
use Rattle.planus_pack.proofs.packing.finished.Goals as goal

pub unreachable-requires : goal.unreachable-requires
unreachable-requires c =
    let steps = map bare_step c.args.steps.items in
    let whole = spec.with_finish c.args.sized c.args.id steps in
    let found = map finish_given c.in_ok-finished.finished.items in
    let e : map bare_step c.deref.result.now ≡ whole = ap (map bare_step) c.deref.ensures.value ∙ c.in_ok-steps.ensures in
    let are : AreFinishesOf (settings_of c.args.caches) whole (finishes_of whole) found =
    subst (λ all. AreFinishesOf (settings_of c.args.caches) all (finishes_of all) found) e c.in_ok-finished.ensures.of_steps in
    let l = last_of (settings_of c.args.caches) whole (spec.finish_of c.args.sized (length steps - 1) c.args.id) refl steps 0 found are in
    let h : length found ≡ 0 = length-map c.in_ok-finished.finished.items finish_given ∙ search rules in
    not_empty l.earlier l.given (ap length (sym l.whole) ∙ h)

pub returns-clause-gives : goal.returns-clause-gives
returns-clause-gives c =
    let steps = map bare_step c.args.steps.items in
    let whole = spec.with_finish c.args.sized c.args.id steps in
    let found = map finish_given c.in_ok-finished.finished.items in
    let e : map bare_step c.deref.result.now ≡ whole = ap (map bare_step) c.deref.ensures.value ∙ c.in_ok-steps.ensures in
    let are : AreFinishesOf (settings_of c.args.caches) whole (finishes_of whole) found =
    subst (λ all. AreFinishesOf (settings_of c.args.caches) all (finishes_of all) found) e c.in_ok-finished.ensures.of_steps in
    let l = last_of (settings_of c.args.caches) whole (spec.finish_of c.args.sized (length steps - 1) c.args.id) refl steps 0 found are in
    let pushed : found ≡ map finish_given c.pop.new.self.items ++ finish_given c.in-Some.last ∷ [] =
    ap (map finish_given) c.in-Some.ensures.items ∙ map_push finish_given c.pop.new.self.items c.in-Some.last in
    let same = same_last (map finish_given c.pop.new.self.items) l.earlier (finish_given c.in-Some.last) l.given (sym pushed ∙ l.whole) in
    let number : 0 + length steps ≡ length c.args.steps.items = omega (arith, length-map c.args.steps.items bare_step) in
    record {
      given = l.given;
      finished = subst (λ n. IsFinishOf (settings_of c.args.caches) whole n l.given) number l.is;
      same = ap (λ g. g.bytes) (sym same);
    }
