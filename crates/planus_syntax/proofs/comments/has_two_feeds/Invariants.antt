use Rattle.std.proofs.Common.{◌≡◌, false, length}
use Rattle.planus_syntax.specs.Elements.{apart_bytes}
use Rattle.planus_syntax.proofs.comments.has_two_feeds.Given as goal

abbrev pub invariant-bytes : goal.invariant-bytes
invariant-bytes l = apart_bytes l.one l.two l.rest ≡ apart_bytes false false l.bytes

abbrev pub decreases-bytes : goal.decreases-bytes
decreases-bytes l = length l.rest
