use Rattle.std.proofs.Common.{map, subst, sym}
use Rattle.std.proofs.lemmas.List.Elements.{All-from_recursion, recursion_from_All}
use Rattle.std.proofs.lemmas.List.Sorted.{All-permutation, IsPermutation-map}
use Rattle.std.proofs.lemmas.Result.{IfOk-weaker}
use Rattle.planus.specs.Printed.{IsIn, AllIn}
use Rattle.planus_keys.proofs.sorted.in_key_order.Goals as goal

pub returns-clause-in_builder : goal.returns-clause-in_builder
returns-clause-in_builder g c =
    let given = map (λ one. one.1) c.args.tables.now in
    let sorted = map (λ one. one.1) c.sort.new.tables in
    let all : AllIn c.args.builder.now sorted =
    recursion_from_All (IsIn c.args.builder.now) sorted
    (All-permutation (IsIn c.args.builder.now) given sorted
    (IsPermutation-map (λ one. one.1) c.args.tables.now c.sort.new.tables
    c.sort.ensures.permutation)
    (All-from_recursion (IsIn c.args.builder.now) given c.requires)) in
    subst (AllIn c.args.builder.now) (sym {A = _} c.put_offsets.ensures) all
