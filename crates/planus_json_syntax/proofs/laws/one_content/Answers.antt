use Rattle.std.proofs.Common.{◌≡◌, ℕ, List, sym, ap, ◌∙◌, Ok}
use Rattle.std.specs.List.{list_all}
use Rattle.std.specs.Str.{is_utf8}
use Rattle.planus_json_syntax.specs.Strings.{Content, string_at}
use Rattle.planus_json_syntax.specs.Spelling.{is_part, said}
use Rattle.planus_json_syntax.proofs.SpelledStrings.{both, string_is_read}
use Rattle.planus_json_syntax.proofs.FoundStrings.{two, parts_of}
use Rattle.planus_json_syntax.proofs.laws.one_content.Goals as goal

abbrev ok_content : List ℕ → List ℕ → Content
ok_content content rest = Ok (content, rest)

same : (a b xs ys : List ℕ) → ok_content a xs ≡ ok_content b ys → two a xs ≡ two b ys
same a b xs ys e = cc

pub returns : goal.returns
returns c a b rest more h k e =
    let f = both (list_all is_part a) (is_utf8 (said a)) h in
    let g = both (list_all is_part b) (is_utf8 (said b)) k in
    parts_of (said a) (said b) rest more (same (said a) (said b) rest more
    (sym (string_is_read a rest f.0 f.1) ∙ ap string_at e ∙ string_is_read b more g.0 g.1))
