use Rattle.std.proofs.Common.{◌++◌, ◌∷◌, [], sym, ap, subst, ◌∙◌}
use Rattle.std.specs.Prelude.{List, ℕ}
use Rattle.std.proofs.lemmas.Result.{IfOk-weaker}
use Rattle.std.specs.BTreeMap.{BTreeMap}
use denote.Ref.{Bor}
use Rattle.planus_resolve.specs.inner.Index.{IsTaken}
use Rattle.planus_resolve.proofs.TableLemmas.{one_taken, two_taken}
use Rattle.planus_resolve.proofs.tables.take_names.Goals.{then-is_union+in-Ok+else-not-new, else-is_union}
use Rattle.planus_resolve.proofs.tables.take_names.Goals as goal

pub returns-clause-taken : goal.returns-clause-taken
returns-clause-taken c = λ list h.
    let t = c.args.kind in
    let name = c.args.name.now in
    let names = c.take_key-2.new.names in
    elim c.if-is_union.branch [
      | then-is_union+in-Ok+else-not-new w ↦
          let mid = subst (λ (m : BTreeMap (Bor (List ℕ)) ℕ). IsTaken m (list ++ c.args.type_name.now ∷ [])) (sym w.names-is) (w.in-Ok.ensures.taken list h w.if-not-new.false) in
          IfOk-weaker c.take_key-2.result _ _
          (λ new f e. subst (IsTaken names) (ap (λ n. (list ++ n ∷ []) ++ name ∷ []) c.requires ∙ two_taken t name list (sym c.is_union.ensures ∙ w.if-is_union.true)) (f e))
          (c.take_key-2.ensures.taken (list ++ c.args.type_name.now ∷ []) mid)
      | else-is_union w ↦
          IfOk-weaker c.take_key-2.result _ _
          (λ new f e. subst (IsTaken names) (one_taken t name list (sym c.is_union.ensures ∙ w.if-is_union.false)) (f e))
          (c.take_key-2.ensures.taken list (subst (λ (m : BTreeMap (Bor (List ℕ)) ℕ). IsTaken m list) (sym w.names-is) h))
    ]
