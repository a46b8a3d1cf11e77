use Rattle.std.proofs.Common.{rules, ◌≡◌, ◌+◌, ◌≤◌, [], ◌∷◌, ◌++◌, take, drop, length, ap, sym, ◌∙◌, subst, arith, inr, refl, Some, append_assoc}
use Rattle.std.specs.Prelude.{Ok, Err, List, slice_get}
use Rattle.std.proofs.lemmas.List.{take_more, take-append-drop}
use Rattle.std.proofs.Math.Seq.{take-length}
use Rattle.std.proofs.lemmas.Option.{slice_get_read}
use Rattle.planus_write.specs.Preparing.{PreparesAll}
use Rattle.planus_write.specs.lemmas.Laws.{unchanged_grows, grows_on}
use Rattle.planus_write.proofs.PreparedItems.{prepares_more, prepares_stops, may_at, reached_further, all_more}
use Rattle.planus_write.proofs.lists.prepare_items.Goals as goal

pub loop-item-init : goal.loop-item-init
loop-item-init g c =
    let none : c.in_ok-values.values.items ≡ [] = search rules in (
      (ap (λ (items : List _). Ok items) none, refl),
      unchanged_grows c.args.builder.now c.args.builder.now refl,
      rw none tt,
      search rules,
      grind (arith, rules),
    )

pub prepare-requires : goal.prepare-requires
prepare-requires g c =
    let there : slice_get c.args.items.now c.loop-item.item-index ≡ Some c.item-item.result = slice_get_read c.args.items.now _ c.loop-item.item-index c.item-item.result refl c.loop-item-test.true c.item-item.is in
    let before = may_at (λ x. g.T.VectorWrite.may x c.args.builder.now) c.args.items.now c.loop-item.item-index c.item-item.result c.requires there in
    g.met.T.VectorWrite.is_lawful.stays c.item-item.result c.args.builder.now c.loop-item.builder c.loop-item.invariant.1 before

pub unreachable-requires : goal.unreachable-requires
unreachable-requires g c = search rules

pub returns-in-Err-clause-prepared : goal.returns-in-Err-clause-prepared
returns-in-Err-clause-prepared g c =
    let next : take (c.loop-item.item-index + 1) c.args.items.now ≡ take c.loop-item.item-index c.args.items.now ++ c.item-item.result ∷ []
    = take_more c.args.items.now c.loop-item.item-index c.item-item.result c.loop-item-test.true ∙ ap (λ x. take c.loop-item.item-index c.args.items.now ++ x ∷ []) (sym c.item-item.is) in
    let all : take c.loop-item.item-index c.args.items.now ++ c.item-item.result ∷ drop (c.loop-item.item-index + 1) c.args.items.now ≡ c.args.items.now
    = sym (append_assoc (take c.loop-item.item-index c.args.items.now) (c.item-item.result ∷ []) (drop (c.loop-item.item-index + 1) c.args.items.now))
    ∙ ap (λ xs. xs ++ drop (c.loop-item.item-index + 1) c.args.items.now) (sym next) ∙ take-append-drop (c.loop-item.item-index + 1) c.args.items.now in
    inr (
      tt,
      c.args.builder.now,
      refl,
      subst (λ (xs : List _). PreparesAll g.T.VectorWrite.outcome xs c.args.builder.now (Err c.in-Err.error) c.prepare.new.builder) all
          (prepares_stops g.T.VectorWrite.outcome (take c.loop-item.item-index c.args.items.now) c.args.builder.now c.loop-item.values.items c.loop-item.builder c.item-item.result (drop (c.loop-item.item-index + 1) c.args.items.now) c.in-Err.error c.prepare.new.builder
          c.loop-item.invariant.0 c.in-Err.ensures),
    )

pub loop-item-preserved : goal.loop-item-preserved
loop-item-preserved g c =
    let next : take (c.loop-item.item-index + 1) c.args.items.now ≡ take c.loop-item.item-index c.args.items.now ++ c.item-item.result ∷ []
    = take_more c.args.items.now c.loop-item.item-index c.item-item.result c.loop-item-test.true ∙ ap (λ x. take c.loop-item.item-index c.args.items.now ++ x ∷ []) (sym c.item-item.is) in
    let pushed : c.push.new.self.items ≡ c.loop-item.values.items ++ c.in-Ok.value ∷ [] = c.in-Ok-push.ensures.items in
    let there : slice_get c.args.items.now c.loop-item.item-index ≡ Some c.item-item.result = slice_get_read c.args.items.now _ c.loop-item.item-index c.item-item.result refl c.loop-item-test.true c.item-item.is in
    let before = may_at (λ x. g.T.VectorWrite.may x c.args.builder.now) c.args.items.now c.loop-item.item-index c.item-item.result c.requires there in
    let may : g.T.VectorWrite.may c.item-item.result c.loop-item.builder = g.met.T.VectorWrite.is_lawful.stays c.item-item.result c.args.builder.now c.loop-item.builder c.loop-item.invariant.1 before in
    let grown = g.met.T.VectorWrite.is_lawful.grows c.item-item.result c.loop-item.builder (Ok c.in-Ok.value) c.prepare.new.builder may c.in-Ok.ensures in (
      rw (next, pushed) (prepares_more g.T.VectorWrite.outcome (take c.loop-item.item-index c.args.items.now) c.args.builder.now c.loop-item.values.items c.loop-item.builder c.item-item.result c.in-Ok.value c.prepare.new.builder c.loop-item.invariant.0 c.in-Ok.ensures),
      grows_on c.args.builder.now c.loop-item.builder c.prepare.new.builder c.loop-item.invariant.1 grown,
      rw pushed (all_more (λ value. g.T.Value.WriteAsPrimitive.reach value ≤ length c.prepare.new.builder.bytes) c.loop-item.values.items c.in-Ok.value
          (reached_further g.T.Value.WriteAsPrimitive.reach c.loop-item.values.items c.loop-item.builder c.prepare.new.builder grown c.loop-item.invariant.2)
          (g.met.T.VectorWrite.is_lawful.reaches c.item-item.result c.loop-item.builder c.in-Ok.value c.prepare.new.builder may c.in-Ok.ensures)),
      search rules,
      search rules,
    )

pub returns-clause-prepared : goal.returns-clause-prepared
returns-clause-prepared g c =
    let whole : take c.loop-item.item-index c.args.items.now ≡ c.args.items.now
    = (let end : c.loop-item.item-index ≡ length c.args.items.now = omega (arith, c.loop-item-test.false, c.loop-item.auto.item-index-end) in ap (λ n. take n c.args.items.now) end ∙ take-length c.args.items.now) in
    (tt, c.args.builder.now, refl, subst (λ (xs : List _). PreparesAll g.T.VectorWrite.outcome xs c.args.builder.now (Ok c.loop-item.values.items) c.loop-item.builder) whole c.loop-item.invariant.0)

pub returns-clause-reached : goal.returns-clause-reached
returns-clause-reached g c = c.loop-item.invariant.2
