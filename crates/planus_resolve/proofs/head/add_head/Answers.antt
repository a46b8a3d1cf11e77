use Rattle.std.proofs.Common.{◌≡◌, ◌++◌, ◌∷◌, [], map, ap, sym, ◌∙◌, arith}
use Rattle.std.proofs.lemmas.List.{append-nil, map_push, take_all}
use Rattle.planus_syntax.specs.Values.{Name, declaration_of}
use Rattle.planus_resolve.specs.Names.{HeadV, head_of, space_of, named_head, dotted}
use Rattle.planus_resolve.specs.Faults.{placed_of, placed_head}
use Rattle.planus_resolve.proofs.head.add_head.Goals.{In_ok-push}
use Rattle.planus_resolve.proofs.head.add_head.Goals as goal

-- a head of this declaration with this name
named : In_ok-push → Name → HeadV
named c name = record { file = c.args.file; space = space_of c.args.space; name = name; declaration = declaration_of c.args.declaration.now }

full : (c : In_ok-push) → c.in-Ok.value.items ≡ dotted (space_of c.args.space ++ c.in-Some.word.now ∷ [])
full c =
    c.in-Ok.ensures ∙ ap (λ ws. dotted (ws ++ c.in-Some.word.now ∷ [])) (take_all c.depth.result (space_of c.args.space) (omega arith))

pub returns-clause-heads : goal.returns-clause-heads
unfolding named
returns-clause-heads c =
    let before = map head_of c.args.heads.now.items in
    ap (map head_of) c.in_ok-push.ensures.items ∙ map_push head_of c.args.heads.now.items _
    ∙ ap (λ name. before ++ named c name ∷ []) (full c)
    ∙ ap (λ word. before ++ named_head c.args.file (space_of c.args.space) (declaration_of c.args.declaration.now) word) c.in-Some.ensures

pub returns-clause-placed : goal.returns-clause-placed
unfolding named
returns-clause-placed c =
    let before = map placed_of c.args.heads.now.items in
    let tree = c.args.declaration.now in
    ap (map placed_of) c.in_ok-push.ensures.items ∙ map_push placed_of c.args.heads.now.items _
    ∙ ap (λ name. before ++ (record { head = named c name; tree = tree }) ∷ []) (full c)
    ∙ ap (λ word. before ++ placed_head tree (named_head c.args.file (space_of c.args.space) (declaration_of tree) word)) c.in-Some.ensures

pub returns-in_default-clause-heads : goal.returns-in_default-clause-heads
returns-in_default-clause-heads c =
    let before = map head_of c.args.heads.now.items in
    sym (append-nil before) ∙ ap (λ word. before ++ named_head c.args.file (space_of c.args.space) (declaration_of c.args.declaration.now) word) c.in_default.ensures

pub returns-in_default-clause-placed : goal.returns-in_default-clause-placed
returns-in_default-clause-placed c =
    let before = map placed_of c.args.heads.now.items in
    let tree = c.args.declaration.now in
    sym (append-nil before) ∙ ap (λ word. before ++ placed_head tree (named_head c.args.file (space_of c.args.space) (declaration_of tree) word)) c.in_default.ensures
