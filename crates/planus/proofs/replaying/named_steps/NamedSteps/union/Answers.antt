use Rattle.std.proofs.Common.{◌≡◌, ◌<◌, ◌∙◌, ℕ, Bool, false, List, Option, Some, None, Ok, Err, ap, sym, map, arith}
use Rattle.std.specs.Prelude.{◌==◌, if◌then◌else◌}
use Rattle.std.specs.Option.{option_map, option_and_then}
use Rattle.std.proofs.lemmas.Bool.Decides.{nat_tests}
use Rattle.std.proofs.lemmas.Result.{err_from_is_err_and}
use Rattle.planus_write.specs.Parts.{Named}
use Rattle.planus_write.specs.declared.offset.Offset.{Offset}
use Rattle.planus_write.specs.declared.union_offset.UnionOffset.{UnionOffset}
use Rattle.planus.specs.Kinds.{a_value}
use Rattle.planus.specs.inner.Names.{name_of, listed_from, fault_since, offset_named, FindsNamed}
use Rattle.planus.specs.inner.Prepared.{PreparesUnion}
use Rattle.planus.specs.Runs.{value_at, value_distance}
use Rattle.planus.specs.declared.replaying.faults.Why.{Why}
use Rattle.planus.specs.declared.replaying.faults.Why.TheVariants.{ZeroTag}
use Rattle.planus.proofs.replaying.named_steps.NamedSteps.union.Goals as goal

module _ (first : ℕ) (since : List (Option Named)) (item : ℕ × ℕ) (above : 0 < item.0) where
  not_zero : (item.0 == 0) ≡ false
  not_zero = grind (arith, nat_tests, above)

  refused : (why : Why) → FindsNamed {A = Offset (Unit {0})} a_value offset_named first since item.1 (Err why) → PreparesUnion first since item (Err why)
  refused why h = ap (λ (zero : Bool). if zero then Some ZeroTag else fault_since first since a_value item.1) not_zero ∙ h

  found : (value : Offset (Unit {0})) (union : UnionOffset (Unit {0})) → FindsNamed {A = Offset (Unit {0})} a_value offset_named first since item.1 (Ok value) → union.tag ≡ item.0 → union.offset ≡ value
      → PreparesUnion first since item (Ok union)
  found value union h tag offset = (
    ap (λ (zero : Bool). if zero then None else option_map (λ distance. (item.0, distance)) (value_at (listed_from first since) item.1)) not_zero
        ∙ ap (λ named. option_map (λ distance. (item.0, distance)) (option_and_then value_distance named)) h.0
        ∙ ap (λ t. Some (t, value.distance)) (sym tag)
        ∙ ap (λ (o : Offset (Unit {0})). Some (union.tag, o.distance)) (sym offset),
    ap (λ (zero : Bool). if zero then Some ZeroTag else fault_since first since a_value item.1) not_zero ∙ h.1,
  )

pub returns-in_err-value : goal.returns-in_err-value
returns-in_err-value c =
    let p = err_from_is_err_and c.from_residual.result c.from_residual.ensures.1 in
    rw (p.1, p.2) (refused c.args.self.now.first (map name_of c.args.self.now.offsets.now) c.args.item (omega arith) c.in_err-value.field-0.0 c.in_err-value.ensures)

pub returns : goal.returns
returns c =
    found c.args.self.now.first (map name_of c.args.self.now.offsets.now) c.args.item (omega arith) c.in_ok-value.field-0 c.new.result c.in_ok-value.ensures c.new.ensures.tag c.new.ensures.offset
