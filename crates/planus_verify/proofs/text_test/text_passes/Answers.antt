use Rattle.std.proofs.Common.{◌≡◌, rules, true}
use Rattle.std.specs.Prelude.{is_some}
use Rattle.planus_read.specs.Slices.{slice_bytes, slice_start}
use Rattle.planus_verify.proofs.Passing.{text_passed}
use Rattle.planus_verify.proofs.text_test.text_passes.Goals as goal

pub returns-in-Ok : goal.returns-in-Ok
returns-in-Ok c = λ passes.
    let good : is_some c.text_in.result ≡ true = search rules in
    text_passed (slice_bytes c.args.buffer) (slice_start c.args.buffer) c.args.offset
    c.in-Ok.count c.in-Ok.items c.as_slice.result.now c.text_in.result c.in-Ok.ensures
    c.as_slice.ensures c.text_in.ensures good
