use Rattle.std.proofs.Common.{◌≡◌, length}
use Rattle.std.specs.Str.{bytes_eq}
use Rattle.planus_syntax.specs.Strings.{string_text, text_from}
use Rattle.planus_syntax.proofs.strings.means.Given as goal

abbrev pub invariant-bytes : goal.invariant-bytes
invariant-bytes l =
    bytes_eq (text_from l.quote l.state l.rest) l.left ≡ bytes_eq (string_text l.string) l.text

abbrev pub decreases-bytes : goal.decreases-bytes
decreases-bytes l = length l.rest
