use Rattle.std.proofs.Common.{rules, refl, take}
use Rattle.std.proofs.lemmas.Str.{IsUtf8-from_ascii}
use Rattle.planus_read.specs.Reading.{ZeroByte}
use Rattle.planus_verify.proofs.text_test.text_in.Goals as goal

pub returns-then-is_ascii : goal.returns-then-is_ascii
returns-then-is_ascii c =
    let zero : ZeroByte c.args.items.now 0 c.args.count = search rules in
    record {
      zero_byte = zero;
      bytes = refl;
      is_utf8 = IsUtf8-from_ascii (take c.args.count c.args.items.now) c.if-is_ascii.ensures.cases;
    }
