use Rattle.std.proofs.Common.{List, ℕ, Option, ap, ◌∙◌}
use Rattle.std.specs.Option.{option_map}
use Rattle.planus_cli.specs.Changes.{SayingV, saying_view}
use Rattle.planus_cli.specs.Parts.{declaration_told, part_told}
use Rattle.planus_cli.specs.Telling.{saying_at, change_json}
use Rattle.planus_cli.proofs.LoadedFiles.{if_ok}
use Rattle.planus_cli.proofs.told.change_at.Goals as goal

pub returns : goal.returns
returns c =
    let saying = saying_at c.args.new.now c.args.after c.args.one in
    let declaration = declaration_told c.args.old.now c.args.before c.args.new.now c.args.after in
    let part = part_told c.args.old.now c.args.before c.args.new.now c.args.after in
    let named = option_map (λ w. w.now) c.declaration_told-declaration.result in
    let parted = option_map (λ w. w.now) c.part_told-part.result in
    let text = c.deref.result.now in
    let same = ap (λ (s : SayingV). change_json s named parted text) c.saying_at.ensures
    ∙ ap (λ (d : Option (List ℕ)). change_json saying d parted text) c.declaration_told-declaration.ensures
    ∙ ap (λ (p : Option (List ℕ)). change_json saying declaration p text) c.part_told-part.ensures
    ∙ ap (λ (t : List ℕ). change_json saying declaration part t)
    (c.deref.ensures.value ∙ c.in_ok-message.ensures) in
    if_ok c.change_json.result (λ json is. is ∙ same) c.change_json.ensures
