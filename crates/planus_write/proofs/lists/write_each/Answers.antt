use Rattle.std.proofs.Common.{◌+◌, ◌*◌, take, drop, length, ap, sym, ◌∙◌, [], ◌∷◌, ◌++◌, ◌≡◌, arith}
use Rattle.std.proofs.lemmas.List.{take_more}
use Rattle.planus_write.proofs.Items.{more_counted, more_written}
use Rattle.planus_write.proofs.lists.write_each.Goals as goal

pub loop-value-preserved : goal.loop-value-preserved
loop-value-preserved g c =
    let next : take (c.loop-value.value-index + 1) c.args.values.now ≡ take c.loop-value.value-index c.args.values.now ++ c.value-item.result ∷ []
    = take_more c.args.values.now c.loop-value.value-index c.value-item.result c.loop-value-test.true ∙ ap (λ x. take c.loop-value.value-index c.args.values.now ++ x ∷ []) (sym c.value-item.is) in
    let size = g.P.Primitive.SIZE in
    let at_is : c.loop-value.at ≡ c.loop-value.value-index * size = c.loop-value.invariant.0 in
    let step : c.SIZE-at.result ≡ size = c.SIZE-at.ensures in
    let turned : c.SIZE.result ≡ size = c.SIZE.ensures in
    let before_is : c.split_at_mut-before.result.0.now ≡ take c.loop-value.at c.loop-value.bytes = c.split_at_mut-before.ensures.front in
    let behind_is : c.split_at_mut-item.result.1.now ≡ drop size (drop c.loop-value.at c.loop-value.bytes)
    = c.split_at_mut-item.ensures.back ∙ ap (λ n. drop n c.split_at_mut-before.result.1.now) turned ∙ ap (drop size) c.split_at_mut-before.ensures.back in
    let sized : length c.write.new.bytes ≡ size = c.write.auto.bytes ∙ c.split_at_mut-item.ensures.front_len ∙ turned in (
      (omega (arith, at_is, step)),
      more_counted g.V.WriteAsPrimitive.encoding size c.args.place c.args.values.now c.loop-value.value-index c.value-item.result c.loop-value.at c.loop-value.bytes c.args.bytes.now
          c.split_at_mut-before.result.0.now c.write.new.bytes c.split_at_mut-item.result.1.now
          at_is c.loop-value.invariant.1 c.loop-value.invariant.2 before_is behind_is c.write.ensures sized c.loop-value-test.true next,
      more_written g.V.WriteAsPrimitive.encoding size c.args.place c.args.values.now c.loop-value.value-index c.value-item.result c.loop-value.at c.loop-value.bytes c.args.bytes.now
          c.split_at_mut-before.result.0.now c.write.new.bytes c.split_at_mut-item.result.1.now
          at_is c.loop-value.invariant.1 c.loop-value.invariant.2 before_is behind_is c.write.ensures sized c.loop-value-test.true next,
    )
