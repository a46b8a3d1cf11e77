use Rattle.std.proofs.Common.{rules, ℕ, ◌+◌, ◌*◌, ◌<◌, take, sym, subst, [], ◌∷◌, ◌++◌, ◌≡◌, arith, length}
use Rattle.std.proofs.lemmas.List.{take_more_set, length-take-le}
use Rattle.std.specs.Prelude.{List, slice_set}
use Rattle.std.specs.List.{AllByRecursion}
use Rattle.planus_read.specs.Clauses.{FirstBroken}
use Rattle.planus_read.specs.Slices.{slice_bytes}
use Rattle.planus_read.specs.Stands.{ItemsStand}
use Rattle.planus_read.specs.lemmas.ArrayLaws.{items_are_whole, item_is_broken}
use Rattle.planus_read.proofs.ArraySteps.{all_more, there_more, one_more_holds, broken_at}
use Rattle.planus_read.proofs.arrays.read_array.Goals as goal

abbrev first_at : (f size : ℕ) → f ≡ f + 0 * size
first_at f size = omega arith

abbrev next_at : (at f i size step : ℕ) → at + size ≡ f + i * size → step ≡ size → at + step ≡ f + i * size
next_at at f i size step is turned = omega (arith, is, turned)

pub returns-in-Err-clause-error : goal.returns-in-Err-clause-error
returns-in-Err-clause-error g c =
    let shape = g.T.Plain.shape in let S = slice_bytes c.args.buffer in
    item_is_broken shape g.row.N S c.args.offset c.in-Err.error
    (broken_at shape 0 g.row.N S c.args.offset c.in-Err.error c.requires.some tt
    (subst (λ p. FirstBroken (shape.clauses S p) c.in-Err.error) (first_at c.args.offset g.T.Plain.SIZE) c.in-Err.ensures.answer))

pub returns-in-Err-read-clause-error : goal.returns-in-Err-read-clause-error
returns-in-Err-read-clause-error g c =
    let shape = g.T.Plain.shape in let S = slice_bytes c.args.buffer in
    item_is_broken shape g.row.N S c.args.offset c.in-Err-read.error
    (broken_at shape c.loop-i.i g.row.N S c.args.offset c.in-Err-read.error c.loop-i-test.true c.loop-i.invariant.5
    (subst (λ p. FirstBroken (shape.clauses S p) c.in-Err-read.error)
    (next_at c.loop-i.place c.args.offset c.loop-i.i g.T.Plain.SIZE c.SIZE-place.result c.loop-i.invariant.2 c.SIZE-place.ensures) c.in-Err-read.ensures.answer))

pub loop-i-preserved : goal.loop-i-preserved
loop-i-preserved g c =
    let shape = g.T.Plain.shape in let S = slice_bytes c.args.buffer in let i = c.loop-i.i in let size = g.T.Plain.SIZE in
    let long : length c.loop-i.items ≡ g.row.N = c.loop-i.invariant.0 in
    let within : i < length c.loop-i.items = subst (λ n. i < n) (sym long) c.loop-i-test.true in
    let next : take (i + 1) (slice_set c.loop-i.items i c.in-Ok-read.item) ≡ take i c.loop-i.items ++ c.in-Ok-read.item ∷ []
    = take_more_set c.loop-i.items i c.in-Ok-read.item within in
    let at : c.loop-i.place + c.SIZE-place.result ≡ c.args.offset + i * size
    = next_at c.loop-i.place c.args.offset i size c.SIZE-place.result c.loop-i.invariant.2 c.SIZE-place.ensures in
    let so_far : length (take i c.loop-i.items) ≡ i = length-take-le i c.loop-i.items (omega (arith, within)) in
    let there : shape.There S (c.args.offset + i * size) c.in-Ok-read.item
    = subst (λ p. shape.There S p c.in-Ok-read.item) at c.in-Ok-read.ensures.answer in
    let counted : shape.There S (c.args.offset + length (take i c.loop-i.items) * size) c.in-Ok-read.item
    = subst (λ n. shape.There S (c.args.offset + n * size) c.in-Ok-read.item) (sym so_far) there in
    let turned : c.SIZE-place.result ≡ size = c.SIZE-place.ensures in (
      search rules,
      search rules,
      omega (arith, at, turned),
      subst (λ (xs : List _). ItemsStand (λ p x. shape.There S p x) c.args.offset size xs) (sym next)
          (there_more shape S c.args.offset (take i c.loop-i.items) c.in-Ok-read.item c.loop-i.invariant.3 counted),
      subst (λ (xs : List _). AllByRecursion (λ x. shape.fits x) xs) (sym next)
          (all_more (λ x. shape.fits x) (take i c.loop-i.items) c.in-Ok-read.item c.loop-i.invariant.4 c.in-Ok-read.ensures.fits),
      one_more_holds shape i S c.args.offset c.loop-i.invariant.5
          (shape.unbroken S (c.args.offset + i * size) c.in-Ok-read.item there),
    )

pub returns-clause-unbroken : goal.returns-clause-unbroken
returns-clause-unbroken g c =
    let shape = g.T.Plain.shape in let S = slice_bytes c.args.buffer in
    items_are_whole shape g.row.N S c.args.offset (search rules)
