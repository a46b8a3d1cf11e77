use Rattle.std.proofs.Common.{ap, sym, ◌∙◌, codes}
use Rattle.planus_read.specs.Places.{place_bytes}
use Rattle.planus_json.specs.Json.{tokens}
use Rattle.planus_json.specs.Trees.{tree}
use Rattle.planus_json.proofs.whole.print_root.Goals as goal

pub returns : goal.returns
returns c = λ ps same.
    let schema = c.args.schema.now in let line = c.args.line.now in
    c.print_table.ensures ps
    (same ∙ ap (λ bytes. tokens line (tree schema 64 schema.root bytes 0 (codes "root"))) (sym (c.new-root.ensures.bytes ∙ c.new.ensures.bytes))
    ∙ ap (λ offset. tokens line (tree schema 64 schema.root (place_bytes c.new-root.result) offset (codes "root"))) (sym c.new-root.ensures.offset))
