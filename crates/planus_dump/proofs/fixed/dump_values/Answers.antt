use Rattle.std.proofs.Common.{◌++◌, ◌∷◌, [], ◌∙◌, refl}
use Rattle.planus_read.specs.Slices.{slice_bytes}
use Rattle.planus_read.specs.Places.{place_bytes, place_offset}
use Rattle.planus_dump.specs.Events.{line, structs, greatest_nesting, values_events}
use Rattle.planus_dump.specs.Lines.{list_line}
use Rattle.planus_dump.proofs.Fed.{fed_as, fed_broken, fed_then}
use Rattle.planus_dump.proofs.FixedFeeds.{values-read}
use Rattle.planus_dump.proofs.fixed.dump_values.Goals as goal

pub returns-in_err-put_list : goal.returns-in_err-put_list
returns-in_err-put_list g c = λ es same.
    let takes = g.L.Lines.takes in let breaks = g.L.Lines.breaks in
    let schema = c.args.schema.now in let count = c.in-Ok.values.1 in let path = c.args.path.now in
    let first = line (list_line path count) ∷ [] in
    let rest = values_events schema (structs schema greatest_nesting) c.args.fixed (slice_bytes c.in-Ok.values.0) 0 path count 0 in
    let r = c.from_residual.result in
    fed_as takes breaks c.args.out.now c.put_list.new.self (first ++ rest) es r
    (fed_broken takes breaks c.args.out.now c.put_list.new.self first rest _ r (c.in_err-put_list.ensures first refl) c.from_residual.ensures.0)
    (same ∙ values-read schema c.args.fixed (place_bytes c.args.place) (place_offset c.args.place) c.fixed_size.result path _ c.in-Ok.ensures c.fixed_size.ensures)

pub returns : goal.returns
returns g c = λ es same.
    let takes = g.L.Lines.takes in let breaks = g.L.Lines.breaks in
    let schema = c.args.schema.now in let count = c.in-Ok.values.1 in let path = c.args.path.now in
    let first = line (list_line path count) ∷ [] in
    let rest = values_events schema (structs schema greatest_nesting) c.args.fixed (slice_bytes c.in-Ok.values.0) 0 path count 0 in
    fed_as takes breaks c.args.out.now c.dump_fixed_items.new.out (first ++ rest) es c.dump_fixed_items.result
    (fed_then takes breaks c.args.out.now c.put_list.new.self c.dump_fixed_items.new.out first rest c.dump_fixed_items.result (c.in_ok-put_list.ensures first refl) (c.dump_fixed_items.ensures rest refl))
    (same ∙ values-read schema c.args.fixed (place_bytes c.args.place) (place_offset c.args.place) c.fixed_size.result path _ c.in-Ok.ensures c.fixed_size.ensures)
