use Rattle.std.proofs.Common.{◌≡◌, drop}
use Rattle.std.specs.Option.{option_copied}
use Rattle.planus_tie.specs.LongStructs.{behind_parts}
use Rattle.planus_tie.proofs.long_structs.behind_parts.Given as goal

abbrev pub invariant-loop-part : goal.invariant-loop-part
invariant-loop-part l =
    behind_parts l.naming l.own l.rest (drop l.part-index l.parts) (option_copied l.found)
    ≡ behind_parts l.naming l.own l.fields l.parts (option_copied l.text)
