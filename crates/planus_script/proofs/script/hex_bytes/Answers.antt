use Rattle.std.proofs.Common.{◌∙◌, sym, rules}
use Rattle.planus_script.proofs.Lists.{pair_read}
use Rattle.planus_script.proofs.script.hex_bytes.Goals as goal

pub loop-rest-preserved : goal.loop-rest-preserved
loop-rest-preserved c = record {
  read = rw c.in_ok-push-in-Some.ensures.items
      (pair_read c.loop-rest.rest.now c.loop-rest.bytes.items c.args.digits.now c.in-Some.byte c.in-len2-up.len_at_least (sym c.byte_of.ensures ∙ c.in-Some.is) c.loop-rest.invariant.read);
  within = search rules;
}
