use Rattle.std.proofs.Common.{◌≡◌, ◌-◌, cond, map, sym, ap, ◌∙◌, arith}
use Rattle.std.specs.Prelude.{Some}
use Rattle.std.specs.Str.{bytes_eq}
use Rattle.std.proofs.lemmas.Iterator.Adapters.{position_from-zero}
use Rattle.std.proofs.lemmas.Map.Text.{btree_map_updates_str}
use Rattle.planus_resolve.specs.declared.head.Head.{Head}
use Rattle.planus_resolve.specs.Names.{head_of, has_name}
use Rattle.planus_resolve.specs.inner.Index.{index_at}
use Rattle.planus_resolve.proofs.IndexLemmas.{one_before}
use Rattle.planus_resolve.proofs.heads.indices.Goals as goal

pub overflow_sub-index : goal.overflow_sub-index
overflow_sub-index c = omega arith

pub heads-preserved : goal.heads-preserved
heads-preserved c =
    let n = c.heads.index in
    let i = n - 1 in
    let h = c.index-list-index.result in
    record {
      within = omega (arith, c.heads.invariant.within);
      first = λ name. btree_map_updates_str c.as_slice.result.now c.heads.first c.insert.new.self (Some i) c.in_ok-insert.ensures.updates name
          ∙ ap (λ bs. cond (bytes_eq bs name) (Some i) (index_at c.heads.first name)) (c.as_slice.ensures.value ∙ ap (λ (x : Head). x.name.items) (sym c.index-list-index.is))
          ∙ ap (cond (bytes_eq h.name.items name) (Some i)) (c.heads.invariant.first name)
          ∙ one_before c.args.list.now i n h name (omega (arith, c.heads-test.true)) (omega (arith, c.heads-test.true, c.heads.invariant.within)) c.index-list-index.is;
    }

pub returns : goal.returns
returns c = λ name.
    let zero : c.heads.index ≡ 0 = omega (arith, c.heads-test.false) in
    c.heads.invariant.first name ∙ rw (zero) (sym (position_from-zero (has_name name) (map head_of c.args.list.now)))
