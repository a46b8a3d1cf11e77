use Rattle.std.proofs.Common.{rules, ◌≡◌, ◌+◌, ◌≤◌, [], ◌∷◌, ◌++◌, take, drop, length, ap, sym, ◌∙◌, subst, arith, inr, refl, Some, append_assoc}
use Rattle.std.specs.Prelude.{Ok, Err, List, slice_get}
use Rattle.std.proofs.lemmas.List.{take_more, take-append-drop, map-append}
use Rattle.std.proofs.Math.Seq.{take-length}
use Rattle.std.proofs.lemmas.Option.{slice_get_read}
use Rattle.planus_write.specs.Preparing.{PreparesAll}
use Rattle.planus_write.specs.lemmas.Laws.{unchanged_grows, grows_on}
use Rattle.planus_write.proofs.PreparedItems.{prepares_more, prepares_stops, may_at, reached_further, all_more}
use Rattle.planus_write.proofs.unions.prepare_unions.Goals as goal

pub loop-item-init : goal.loop-item-init
loop-item-init g c =
    let no_tags : c.in_ok-tags.tags.items ≡ [] = search rules in
    let none : c.in_ok-values.values.items ≡ [] = search rules in (
      [],
      (refl, refl),
      no_tags,
      none,
      unchanged_grows c.args.builder.now c.args.builder.now refl,
      rw none tt,
      search rules,
      search rules,
      grind (arith, rules),
      grind (arith, rules),
    )

pub prepare-requires : goal.prepare-requires
prepare-requires g c =
    let there : slice_get c.args.items.now c.loop-item.item-index ≡ Some c.item-item.result = slice_get_read c.args.items.now _ c.loop-item.item-index c.item-item.result refl c.loop-item-test.true c.item-item.is in
    let before = may_at (λ x. g.U.WriteAsUnion.may x c.args.builder.now) c.args.items.now c.loop-item.item-index c.item-item.result c.requires there in
    g.met.U.WriteAsUnion.is_lawful.stays c.item-item.result c.args.builder.now c.loop-item.builder c.loop-item.invariant.4 before

pub returns-in-Err-clause-prepared : goal.returns-in-Err-clause-prepared
returns-in-Err-clause-prepared g c =
    let next : take (c.loop-item.item-index + 1) c.args.items.now ≡ take c.loop-item.item-index c.args.items.now ++ c.item-item.result ∷ []
    = take_more c.args.items.now c.loop-item.item-index c.item-item.result c.loop-item-test.true ∙ ap (λ x. take c.loop-item.item-index c.args.items.now ++ x ∷ []) (sym c.item-item.is) in
    let all : take c.loop-item.item-index c.args.items.now ++ c.item-item.result ∷ drop (c.loop-item.item-index + 1) c.args.items.now ≡ c.args.items.now
    = sym (append_assoc (take c.loop-item.item-index c.args.items.now) (c.item-item.result ∷ []) (drop (c.loop-item.item-index + 1) c.args.items.now))
    ∙ ap (λ xs. xs ++ drop (c.loop-item.item-index + 1) c.args.items.now) (sym next) ∙ take-append-drop (c.loop-item.item-index + 1) c.args.items.now in
    inr (
      tt,
      c.args.builder.now,
      refl,
      subst (λ (xs : List _). PreparesAll g.U.WriteAsUnion.outcome xs c.args.builder.now (Err c.in-Err.error) c.prepare.new.builder) all
          (prepares_stops g.U.WriteAsUnion.outcome (take c.loop-item.item-index c.args.items.now) c.args.builder.now c.loop-item.invariant.0 c.loop-item.builder c.item-item.result (drop (c.loop-item.item-index + 1) c.args.items.now) c.in-Err.error c.prepare.new.builder
          c.loop-item.invariant.1 c.in-Err.ensures),
    )

pub loop-item-preserved : goal.loop-item-preserved
loop-item-preserved g c =
    let next : take (c.loop-item.item-index + 1) c.args.items.now ≡ take c.loop-item.item-index c.args.items.now ++ c.item-item.result ∷ []
    = take_more c.args.items.now c.loop-item.item-index c.item-item.result c.loop-item-test.true ∙ ap (λ x. take c.loop-item.item-index c.args.items.now ++ x ∷ []) (sym c.item-item.is) in
    let unions : List _ = c.loop-item.invariant.0 in
    let tag : c.push.new.self.items ≡ c.loop-item.tags.items ++ c.in-Ok.prepared.tag ∷ [] = c.in-Ok-Ok.ensures.items ∙ ap (λ n. c.loop-item.tags.items ++ n ∷ []) c.tag.ensures in
    let value : c.push-in-Ok.new.self.items ≡ c.loop-item.values.items ++ c.in-Ok.prepared.offset ∷ [] = c.in-Ok-Ok.ensures'.items ∙ ap (λ offset. c.loop-item.values.items ++ offset ∷ []) c.offset.ensures in
    let there : slice_get c.args.items.now c.loop-item.item-index ≡ Some c.item-item.result = slice_get_read c.args.items.now _ c.loop-item.item-index c.item-item.result refl c.loop-item-test.true c.item-item.is in
    let before = may_at (λ x. g.U.WriteAsUnion.may x c.args.builder.now) c.args.items.now c.loop-item.item-index c.item-item.result c.requires there in
    let may : g.U.WriteAsUnion.may c.item-item.result c.loop-item.builder = g.met.U.WriteAsUnion.is_lawful.stays c.item-item.result c.args.builder.now c.loop-item.builder c.loop-item.invariant.4 before in
    let grown = g.met.U.WriteAsUnion.is_lawful.grows c.item-item.result c.loop-item.builder (Ok c.in-Ok.prepared) c.prepare.new.builder may c.in-Ok.ensures in (
      unions ++ c.in-Ok.prepared ∷ [],
      rw next (prepares_more g.U.WriteAsUnion.outcome (take c.loop-item.item-index c.args.items.now) c.args.builder.now unions c.loop-item.builder c.item-item.result c.in-Ok.prepared c.prepare.new.builder c.loop-item.invariant.1 c.in-Ok.ensures),
      tag ∙ ap (λ tags. tags ++ c.in-Ok.prepared.tag ∷ []) c.loop-item.invariant.2 ∙ sym (map-append (λ union. union.tag) unions (c.in-Ok.prepared ∷ [])),
      value ∙ ap (λ values. values ++ c.in-Ok.prepared.offset ∷ []) c.loop-item.invariant.3 ∙ sym (map-append (λ union. union.offset) unions (c.in-Ok.prepared ∷ [])),
      grows_on c.args.builder.now c.loop-item.builder c.prepare.new.builder c.loop-item.invariant.4 grown,
      rw value (all_more (λ value. value.distance ≤ length c.prepare.new.builder.bytes) c.loop-item.values.items c.in-Ok.prepared.offset
          (reached_further (λ value. value.distance) c.loop-item.values.items c.loop-item.builder c.prepare.new.builder grown c.loop-item.invariant.5)
          (g.met.U.WriteAsUnion.is_lawful.reaches c.item-item.result c.loop-item.builder c.in-Ok.prepared c.prepare.new.builder may c.in-Ok.ensures)),
      search rules,
      search rules,
      search rules,
      search rules,
    )

pub returns-clause-prepared : goal.returns-clause-prepared
returns-clause-prepared g c =
    let whole : take c.loop-item.item-index c.args.items.now ≡ c.args.items.now
    = (let end : c.loop-item.item-index ≡ length c.args.items.now = omega (arith, c.loop-item-test.false, c.loop-item.auto.item-index-end) in ap (λ n. take n c.args.items.now) end ∙ take-length c.args.items.now) in (
      c.loop-item.invariant.0,
      (tt, c.args.builder.now, refl, subst (λ (xs : List _). PreparesAll g.U.WriteAsUnion.outcome xs c.args.builder.now (Ok c.loop-item.invariant.0) c.loop-item.builder) whole c.loop-item.invariant.1),
      c.loop-item.invariant.2,
      c.loop-item.invariant.3,
    )

pub returns-clause-reached : goal.returns-clause-reached
returns-clause-reached g c = c.loop-item.invariant.5
