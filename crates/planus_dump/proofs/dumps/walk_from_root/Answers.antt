use Rattle.std.proofs.Common.{ap, sym, ◌∙◌, codes}
use Rattle.planus_read.specs.Places.{place_bytes}
use Rattle.planus_dump.specs.Events.{events}
use Rattle.planus_dump.proofs.dumps.walk_from_root.Goals as goal

pub returns : goal.returns
returns g c = λ es same.
    let schema = c.args.schema.now in
    c.dump_table.ensures es
    (same ∙ ap (λ bytes. events schema 64 schema.root bytes 0 (codes "root")) (sym (c.new-root.ensures.bytes ∙ c.new.ensures.bytes))
    ∙ ap (λ offset. events schema 64 schema.root (place_bytes c.new-root.result) offset (codes "root")) (sym c.new-root.ensures.offset))
