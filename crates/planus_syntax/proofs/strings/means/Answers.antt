use Rattle.std.proofs.Common.{rules, ◌≡◌, sym, subst}
use Rattle.std.specs.Str.{bytes_eq}
use Rattle.planus_syntax.specs.Strings.{string_text, text_from}
use Rattle.planus_syntax.proofs.Stripping.{compared}
use Rattle.planus_syntax.proofs.strings.means.Goals as goal

pub bytes-preserved : goal.bytes-preserved
bytes-preserved c =
    let after = c.in-Some-split_first.after.now in
    let next = c.in-Some-after_written.next.now in
    let equal = bytes_eq (string_text c.args.string.now) c.args.text.now in
    subst (λ s. bytes_eq (text_from c.in-Some.quote.now s after) next ≡ equal) (sym c.string_step-state.ensures)
    (compared c.in-Some.quote.now c.in-Some-split_first.b.now c.bytes.state c.bytes.rest.now after c.bytes.left.now next equal
    (search rules) c.in-Some-after_written.ensures c.bytes.invariant)
