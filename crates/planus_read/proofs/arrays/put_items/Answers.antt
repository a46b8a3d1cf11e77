use Rattle.std.proofs.Common.{◌+◌, ◌*◌, take, drop, ap, sym, subst, ◌∙◌, [], ◌∷◌, ◌++◌, ◌≡◌, arith}
use Rattle.std.specs.Prelude.{List}
use Rattle.std.specs.List.{AllByRecursion}
use Rattle.std.proofs.lemmas.List.{take_more}
use Rattle.planus_read.proofs.ArraySteps.{more_written, all_more}
use Rattle.planus_read.proofs.arrays.put_items.Goals as goal

pub loop-item-preserved : goal.loop-item-preserved
loop-item-preserved g c =
    let i = c.loop-item.item-index in let size = g.T.Plain.SIZE in
    let next : take (i + 1) c.args.items.now ≡ take i c.args.items.now ++ c.item-item.result ∷ []
    = take_more c.args.items.now i c.item-item.result c.loop-item-test.true ∙ ap (λ x. take i c.args.items.now ++ x ∷ []) (sym c.item-item.is) in
    let at_is : c.loop-item.at ≡ i * size = c.loop-item.invariant.0 in
    let step : c.SIZE-at.result ≡ size = c.SIZE-at.ensures in
    let turned : c.SIZE.result ≡ size = c.SIZE.ensures in
    let before_is : c.split_at_mut-before.result.0.now ≡ take c.loop-item.at c.loop-item.bytes = c.split_at_mut-before.ensures.front in
    let behind_is : c.split_at_mut-field.result.1.now ≡ drop size (drop c.loop-item.at c.loop-item.bytes)
    = c.split_at_mut-field.ensures.back ∙ ap (λ n. drop n c.split_at_mut-before.result.1.now) turned ∙ ap (drop size) c.split_at_mut-before.ensures.back in (
      (omega (arith, at_is, step)),
      more_written g.T.Plain.shape c.args.items.now i c.item-item.result c.loop-item.at c.loop-item.bytes c.args.bytes.now
          c.split_at_mut-before.result.0.now c.put.new.bytes c.split_at_mut-field.result.1.now
          at_is c.loop-item.invariant.1 before_is behind_is c.put.ensures.encoded c.loop-item-test.true next,
      subst (λ (xs : List _). AllByRecursion (λ x. g.T.Plain.shape.fits x) xs) (sym next)
          (all_more (λ x. g.T.Plain.shape.fits x) (take i c.args.items.now) c.item-item.result c.loop-item.invariant.2 c.put.ensures.fits),
    )
