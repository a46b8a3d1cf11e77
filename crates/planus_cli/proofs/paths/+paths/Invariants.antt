use Rattle.std.proofs.Common.{◌≡◌, ◌*◌, ◌+◌, length, map}
use Rattle.planus_json_syntax.specs.Values.{json_view, member_view}
use Rattle.planus_cli.specs.Paths as spec
use Rattle.planus_cli.proofs.paths.+paths.Given as goal

abbrev pub decreases-path_to : goal.decreases-path_to
decreases-path_to l = 8 * l.depth

abbrev pub decreases-in_item : goal.decreases-in_item
decreases-in_item l = 8 * l.depth + 1

abbrev pub decreases-in_items : goal.decreases-in_items
decreases-in_items l = 8 * l.depth + 2

abbrev pub decreases-in_member : goal.decreases-in_member
decreases-in_member l = 8 * l.depth + 3

abbrev pub decreases-in_members : goal.decreases-in_members
decreases-in_members l = 8 * l.depth + 4

abbrev pub decreases-in_parts : goal.decreases-in_parts
decreases-in_parts l = 8 * l.depth + 5

abbrev pub decreases-in_value : goal.decreases-in_value
decreases-in_value l = 8 * l.depth + 6

abbrev pub invariant-in_items-items : goal.invariant-in_items-items
invariant-in_items-items l = record {
  path : spec.in_items (spec.path_to l.depth l.place) l.n (map json_view l.rest)
      ≡ spec.in_items (spec.path_to l.depth l.place) 0 (map json_view l.items);
  count : l.n + length l.rest ≡ length l.items;
}

abbrev pub decreases-in_items-items : goal.decreases-in_items-items
decreases-in_items-items l = length l.rest

abbrev pub invariant-in_members-members : goal.invariant-in_members-members
invariant-in_members-members l =
    spec.in_members (spec.path_to l.depth l.place) l.place (map member_view l.rest)
    ≡ spec.in_members (spec.path_to l.depth l.place) l.place (map member_view l.members)

abbrev pub decreases-in_members-members : goal.decreases-in_members-members
decreases-in_members-members l = length l.rest
