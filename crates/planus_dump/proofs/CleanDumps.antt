-- A dump of what a run finished.
use Rattle.std.proofs.Common.{◌≡◌, ℕ, ◌+◌, List, [], ◌∷◌, ◌++◌, map, refl, sym, subst, arith, false}
use Rattle.std.proofs.lemmas.List.{append-nil}
use Rattle.std.specs.Prelude.{codes, String}
use Rattle.std.specs.List.{AllByRecursion}
use Rattle.std.specs.String.{string_bytes}
use Rattle.std.specs.declared.alloc.Global.{Global}
use Rattle.planus_read.specs.Bytes.{position_of}
use Rattle.planus_read.specs.Reading.{Leads}
use Rattle.planus_read.proofs.SliceLaws.{references_lead}
use Rattle.planus.specs.FinishHolds.{root_at}
use Rattle.planus_dump.specs.Dumped.{greatest_depth}
use Rattle.planus_dump.specs.Laws.{FinishesHaveNoFault}
use Rattle.planus_dump.proofs.GoodSchemas.{good_tags}
use Rattle.planus_dump.proofs.NoFaults.{tables_no_fault}

pub finishes_have_no_fault : FinishesHaveNoFault
finishes_have_no_fault settings steps given holds schema good fits =
    let leads : Leads given.bytes (root_at holds.front) (position_of given.bytes holds.leads.0) = references_lead given.bytes (root_at holds.front) holds.leads.0 holds.leads.2 in
    let at_zero : root_at holds.front ≡ root_at holds.front + 0 = omega arith in
    tables_no_fault steps given holds.values schema (good_tags schema good) greatest_depth schema.root holds.root holds.leads.0 (root_at holds.front) 0 (codes "root") fits holds.leads.1
    (subst (λ n. Leads given.bytes n (position_of given.bytes holds.leads.0)) at_zero leads)
