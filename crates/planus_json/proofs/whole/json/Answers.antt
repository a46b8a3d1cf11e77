use Rattle.std.proofs.Common.{◌≡◌, refl, ap, sym, true, rules}
use Rattle.planus_dump.specs.Schemas.{is_good}
use Rattle.planus_json.specs.Json.{tokens}
use Rattle.planus_json.specs.Outcomes.{json_tokens}
use Rattle.planus_json.specs.Trees.{tree_of}
use Rattle.planus_json.proofs.Answering.{whole_json, error_json}
use Rattle.planus_json.proofs.whole.json.Goals as goal

pub returns-in_err-print_root : goal.returns-in_err-print_root
returns-in_err-print_root c =
    let schema = c.args.schema.now in let bytes = c.args.bytes.now in let layout = c.args.layout in
    let good : is_good schema ≡ true = search rules in
    let given = ap (λ line. tokens line (tree_of schema bytes)) (sym c.first_line.ensures) in
    error_json schema bytes layout c.args.most good (record { alloc = c.args.alloc; text = c.new.result; most = c.args.most; strict = layout.strict; first = true }) c.new.ensures.bytes refl refl refl
    _ c.print_root.new.out c.from_residual.result c.from_residual.ensures.1 (c.in_err-print_root.ensures (json_tokens layout schema bytes) given)

pub returns : goal.returns
returns c =
    let schema = c.args.schema.now in let bytes = c.args.bytes.now in let layout = c.args.layout in
    let good : is_good schema ≡ true = search rules in
    let given = ap (λ line. tokens line (tree_of schema bytes)) (sym c.first_line.ensures) in
    whole_json schema bytes layout c.args.most good (record { alloc = c.args.alloc; text = c.new.result; most = c.args.most; strict = layout.strict; first = true }) c.new.ensures.bytes refl refl refl
    c.print_root.new.out (c.in_ok-print_root.ensures (json_tokens layout schema bytes) given)
