use Rattle.std.proofs.Common.{◌≤◌, ◌*◌, ◌+◌, length, map}
use Rattle.planus_json_syntax.specs.declared.fault_kind.FaultKind.TheVariants as fault
use Rattle.planus_json_syntax.specs.Reading.{items_at, value_at, member_of}
use Rattle.planus_json_syntax.specs.Values.{json_view, member_view}
use Rattle.planus_json_syntax.proofs.Lists.{MoreItems}
use Rattle.planus_json_syntax.proofs.values.+values.Given as goal

abbrev pub decreases-value_at : goal.decreases-value_at
decreases-value_at l = 4 * l.depth + 1

abbrev pub decreases-nested_at : goal.decreases-nested_at
decreases-nested_at l = 4 * l.depth

abbrev pub decreases-member_at : goal.decreases-member_at
decreases-member_at l = 4 * l.depth + 2

abbrev pub decreases-items_at : goal.decreases-items_at
decreases-items_at l = 4 * l.depth + 2

abbrev pub decreases-members_at : goal.decreases-members_at
decreases-members_at l = 4 * l.depth + 3

abbrev pub invariant-items_at-items : goal.invariant-items_at-items
invariant-items_at-items l = record {
  reads : MoreItems (value_at l.len l.depth) 93 fault.Value fault.ListEnd (map json_view l.items.items) l.rest
      (items_at (value_at l.len l.depth) 93 fault.Value fault.ListEnd l.fn.bytes);
  shorter : length l.rest ≤ length l.fn.bytes;
}

abbrev pub decreases-items_at-items : goal.decreases-items_at-items
decreases-items_at-items l = length l.rest

abbrev pub invariant-members_at-members : goal.invariant-members_at-members
invariant-members_at-members l = record {
  reads : MoreItems (member_of l.len (value_at l.len l.depth)) 125 fault.Key fault.ObjectEnd (map member_view l.members.items) l.rest
      (items_at (member_of l.len (value_at l.len l.depth)) 125 fault.Key fault.ObjectEnd l.fn.bytes);
  shorter : length l.rest ≤ length l.fn.bytes;
}

abbrev pub decreases-members_at-members : goal.decreases-members_at-members
decreases-members_at-members l = length l.rest
