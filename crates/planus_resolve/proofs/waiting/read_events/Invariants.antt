use Rattle.std.proofs.Common.{◌≡◌, ◌≤◌, ◌++◌, [], length, map, drop}
use Rattle.planus_resolve.specs.Faults.{first_twenty}
use Rattle.planus_resolve.specs.Names.{head_of}
use Rattle.planus_resolve.specs.Uses.{event_of, waiting_of, events_faults}
use Rattle.planus_resolve.proofs.waiting.read_events.Given as goal

abbrev pub invariant-events : goal.invariant-events
invariant-events l = record {
  kept : l.faults.items ≡ [] → l.fn.faults.items ≡ [];
  most : length l.faults.items ≤ 20;
  adds : first_twenty (l.faults.items ++ events_faults (map head_of l.heads) (waiting_of l.waiting)
      (map event_of (drop l.event-index l.events)))
      ≡ first_twenty (l.fn.faults.items ++ events_faults (map head_of l.heads)
      (waiting_of l.fn.waiting) (map event_of l.events));
}
