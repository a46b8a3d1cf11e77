use Rattle.std.proofs.Common.{◌+◌, ◌++◌, map, drop, ap, sym, ◌∙◌}
use Rattle.std.proofs.lemmas.List.{drop_all}
use Rattle.planus_resolve.specs.Faults.{first_twenty}
use Rattle.planus_resolve.specs.Names.{head_of}
use Rattle.planus_resolve.specs.Uses.{event_of, waiting_of, event_faults, after_event, events_faults}
use Rattle.planus_resolve.proofs.StructLemmas.{map_rest}
use Rattle.planus_resolve.proofs.FaultLemmas.{adds_none, adds_next}
use Rattle.planus_resolve.proofs.waiting.read_events.Goals as goal

pub events-preserved : goal.events-preserved
events-preserved c =
    let i = c.events.invariant in
    let hs = map head_of c.args.heads.now in
    let s = waiting_of c.events.waiting in
    let old = c.events.faults.items in
    let e = event_of c.event-item.result in
    let r = map_rest event_of c.args.events.now c.events.event-index c.event-item.result c.events-test.true c.event-item.is in
    let rest = map event_of (drop (c.events.event-index + 1) c.args.events.now) in
    let n = c.in-Ok.ensures.noted in
    record {
      kept = λ x. i.kept (n.kept x);
      most = n.most;
      adds = ap (λ t. first_twenty (c.read_event.new.faults.items ++ events_faults hs t rest)) c.in-Ok.ensures.after
          ∙ adds_next old (event_faults hs s e) c.read_event.new.faults.items (events_faults hs (after_event hs s e) rest) _ n.adds
          (ap (λ es. first_twenty (old ++ events_faults hs s es)) (sym r) ∙ i.adds);
    }

pub returns : goal.returns
returns c =
    let i = c.events.invariant in
    let hs = map head_of c.args.heads.now in
    let d = drop_all c.events.event-index c.args.events.now c.events-test.false in
    record {
      kept = i.kept;
      most = i.most;
      adds = adds_none c.events.faults.items i.most
          ∙ ap (λ es. first_twenty (c.events.faults.items ++ events_faults hs (waiting_of c.events.waiting) (map event_of es))) (sym d) ∙ i.adds;
    }
