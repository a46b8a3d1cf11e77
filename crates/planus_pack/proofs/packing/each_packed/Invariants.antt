use Rattle.std.proofs.Common.{List, ℕ, [], length, map}
use Rattle.planus_json_syntax.specs.Values.{json_view}
use Rattle.planus_pack.specs.declared.pack_error.PackError.{PackError}
use Rattle.planus_pack.specs.Packs as spec
use Rattle.planus_pack.proofs.packing.each_packed.Given as goal

abbrev pub invariant-values : goal.invariant-values
invariant-values l = record {
  packed : (bytes : List ℕ)
      → spec.PacksAfter (spec.way_of l.way) l.bytes.items (map json_view l.rest) bytes
      → spec.PacksAfter (spec.way_of l.way) [] (map json_view l.values) bytes;
  fails : (error : PackError) → spec.FailsAny (spec.way_of l.way) (map json_view l.rest) error
      → spec.FailsAny (spec.way_of l.way) (map json_view l.values) error;
}

abbrev pub decreases-values : goal.decreases-values
decreases-values l = length l.rest
