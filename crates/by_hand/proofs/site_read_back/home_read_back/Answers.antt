use Rattle.std.proofs.Common.{rules, refl, None}
use Rattle.by_hand.specs.Structs.{pos_shape}
use Rattle.by_hand.proofs.site_read_back.home_read_back.Goals as goal

pub returns-in-Err : goal.returns-in-Err
returns-in-Err c =
    elim (c.in-Err.ensures.written _ _ _ c.in_ok-offset.offset None c.has_a_history.ensures
    c.in_ok-offset.ensures.kept c.in_ok-offset.ensures.reached c.in_ok-bytes.ensures.bytes refl) [ ]

pub returns-in-Ok : goal.returns-in-Ok
returns-in-Ok c =
    let holds = c.in-Ok.ensures.written _ _ _ c.in_ok-offset.offset None c.has_a_history.ensures
    c.in_ok-offset.ensures.kept c.in_ok-offset.ensures.reached c.in_ok-bytes.ensures.bytes refl in
    let fits : pos_shape.fits c.args.site.home = search rules in
    c.home.ensures.read_back c.in_ok-bytes.bytes.now c.args.site.home (holds 0) fits
