use Rattle.std.proofs.Common.{◌≡◌, ℕ, cond, take, sym, ap, subst, ◌∙◌}
use Rattle.std.specs.Prelude.{Some}
use Rattle.std.specs.Global.{Vec}
use Rattle.std.specs.Str.{bytes_eq}
use Rattle.std.proofs.lemmas.Map.Text.{btree_map_updates_str}
use Rattle.planus_syntax.specs.Values.{names_of}
use Rattle.planus_schema.specs.Distinct.{is_in}
use Rattle.planus_resolve.specs.Names.{is_set}
use Rattle.planus_resolve.specs.inner.Index.{index_at}
use Rattle.planus_resolve.proofs.IndexLemmas.{taken_more}
use Rattle.planus_resolve.proofs.StructLemmas.{map_next}
use Rattle.planus_resolve.proofs.attribute_names.keys.Goals as goal

pub names-preserved : goal.names-preserved
names-preserved c = λ q.
    let old = c.names.taken in
    let new = c.insert.new.self in
    let at : index_at new q ≡ cond (bytes_eq c.name-item.result.items q) (Some 0) (index_at old q) =
    btree_map_updates_str c.as_slice.result.now old new (Some 0) c.in_ok-insert.ensures.updates q
    ∙ ap (λ bs. cond (bytes_eq bs q) (Some 0) (index_at old q)) c.as_slice.ensures.value in
    subst (λ ns. is_set (index_at new q) ≡ is_in ns q)
    (sym (map_next (λ (w : Vec ℕ). w.items) c.args.list.now c.names.name-index c.name-item.result c.names-test.true c.name-item.is))
    (taken_more old new (names_of (take c.names.name-index c.args.list.now)) c.name-item.result.items q at (c.names.invariant q))
