use Rattle.std.proofs.Common.{map, ap, subst, ◌∙◌}
use Rattle.std.specs.Prelude.{List, OnOk}
use Rattle.planus_resolve.specs.inner.Read.{AreNoted}
use Rattle.planus_resolve.specs.Names.{head_of}
use Rattle.planus_resolve.specs.declared.fault.Fault.{Fault}
use Rattle.planus_resolve.specs.Uses.{event_of, events_faults, nothing_waits}
use Rattle.planus_resolve.proofs.waiting.check_uses.Goals as goal

pub returns : goal.returns
returns c =
    let hs = map head_of c.args.heads.now in
    subst (λ (fs : List Fault). OnOk c.read_events.result (AreNoted fs c.args.faults.now.items c.read_events.new.faults.items))
    (ap (λ s. events_faults hs s (map event_of c.deref.result.now)) c.in-Ok-nothing_waits.ensures
    ∙ ap (λ es. events_faults hs (nothing_waits hs) (map event_of es)) c.deref.ensures.value
    ∙ ap (events_faults hs (nothing_waits hs)) c.in-Ok.ensures)
    c.read_events.ensures
