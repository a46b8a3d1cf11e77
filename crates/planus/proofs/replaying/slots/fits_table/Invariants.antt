use Rattle.std.proofs.Common.{◌≡◌, ◌+◌, map, take}
use Rattle.planus.specs.Slots.{fields_size}
use Rattle.planus.specs.Steps.{bare_field}
use Rattle.planus.proofs.replaying.slots.fits_table.Given as goal

abbrev pub invariant-loop-field : goal.invariant-loop-field
invariant-loop-field l = l.room + fields_size (map bare_field (take l.field-index l.fields)) ≡ 65531
