use Rattle.std.proofs.Common.{rules, lit<}
use Rattle.std.specs.Str.{bytes_eq}
use Rattle.std.proofs.lemmas.Iterator.Search.{any_from_yields_List}
use Rattle.std.proofs.lemmas.Iterator.Splits.{YieldsList-from_str_split}
use Rattle.planus_codegen.proofs.known.has_word.Goals as goal

pub returns : goal.returns
returns c = any_from_yields_List (λ w. bytes_eq w c.args.name.now) _ _ _ c.any.ensures.ran
    (YieldsList-from_str_split 32 c.args.words.now (lit< tt) c.split.ensures.text c.split.ensures.has_more c.split.ensures.pattern)
    (search rules)
