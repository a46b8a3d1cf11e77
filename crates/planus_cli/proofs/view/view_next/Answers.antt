use Rattle.std.proofs.Common.{subst, refl}
use Rattle.std.specs.Io.KnownBytes.{Appends}
use Rattle.planus_dump.specs.Writing.{WritesBeginning}
use Rattle.planus_cli.specs.Buffers.{header_text, lead_of, lead_view, limits_of, look_of}
use Rattle.planus_cli.proofs.Failing.{if_err, none_begun}
use Rattle.planus_cli.proofs.Led.{err_map, lead_failed, led_cut, led_on, led_failed}
use Rattle.planus_cli.proofs.LoadedFiles.{if_ok}
use Rattle.planus_cli.proofs.view.view_next.Goals as goal

pub returns-in_err-lead-clause-failed : goal.returns-in_err-lead-clause-failed
returns-in_err-lead-clause-failed g c =
    let look = look_of c.args.view.now in let header = header_text c.args.number c.args.at in
    let lead = lead_of (limits_of look) header in
    if_err c.from_residual.result _ (λ error. lead_failed look header c.args.bytes.now error lead (g.W.Write.contents c.args.writer.now) (g.W.Write.contents c.args.writer.now)
    (g.X.Write.contents c.args.errors.now) refl (none_begun lead.text (g.W.Write.contents c.args.writer.now)))

pub returns-in_err-write_out-clause-failed : goal.returns-in_err-write_out-clause-failed
returns-in_err-write_out-clause-failed g c =
    let look = look_of c.args.view.now in let header = header_text c.args.number c.args.at in
    let before = g.W.Write.contents c.args.writer.now in let after = g.W.Write.contents c.write_out.new.writer in
    if_err c.from_residual-in_err-write_out.result _ (λ error. lead_failed look header c.args.bytes.now error (lead_view c.in_ok-lead.lead) before after
    (g.X.Write.contents c.args.errors.now) c.in_ok-lead.ensures
    (subst (λ bytes. WritesBeginning bytes before after) c.deref.ensures.value c.in_err-write_out.ensures.begun))

pub returns-then-lead-clause-views : goal.returns-then-lead-clause-views
returns-then-lead-clause-views g c =
    let before = g.W.Write.contents c.args.writer.now in let after = g.W.Write.contents c.write_out.new.writer in
    led_cut (look_of c.args.view.now) (header_text c.args.number c.args.at) c.args.bytes.now c.cut_one.result (lead_view c.in_ok-lead.lead) before after
    (g.X.Write.contents c.args.errors.now) c.in_ok-lead.ensures c.if-lead.true
    (subst (Appends before after) c.deref.ensures.value c.in_ok-write_out.ensures.bytes) c.cut_one.ensures

pub returns-clause-views : goal.returns-clause-views
returns-clause-views g c =
    let before = g.W.Write.contents c.args.writer.now in let between = g.W.Write.contents c.write_out.new.writer in
    if_ok c.view_one.result
    (λ one views. led_on (look_of c.args.view.now) (look_of c.with_limits-view.result) (header_text c.args.number c.args.at) c.args.bytes.now one (lead_view c.in_ok-lead.lead)
    before between (g.W.Write.contents c.view_one.new.writer) (g.X.Write.contents c.args.errors.now) (g.X.Write.contents c.view_one.new.errors) c.in_ok-lead.ensures c.if-lead.false
    (subst (Appends before between) c.deref.ensures.value c.in_ok-write_out.ensures.bytes) c.with_limits-view.ensures views)
    c.view_one.ensures.views

pub returns-clause-failed : goal.returns-clause-failed
returns-clause-failed g c =
    let before = g.W.Write.contents c.args.writer.now in let between = g.W.Write.contents c.write_out.new.writer in
    err_map c.view_one.result _ _
    (λ error fails. led_failed (look_of c.args.view.now) (look_of c.with_limits-view.result) (header_text c.args.number c.args.at) c.args.bytes.now error (lead_view c.in_ok-lead.lead)
    before between (g.W.Write.contents c.view_one.new.writer) (g.X.Write.contents c.args.errors.now) (g.X.Write.contents c.view_one.new.errors) c.in_ok-lead.ensures c.if-lead.false
    (subst (Appends before between) c.deref.ensures.value c.in_ok-write_out.ensures.bytes) c.with_limits-view.ensures fails)
    c.view_one.ensures.failed
