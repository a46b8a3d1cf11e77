use Rattle.std.proofs.Common.{◌≡◌, ◌-◌, ◌++◌, ◌∷◌, [], map, arith, sym, ap, ◌∙◌, subst, Ok}
use Rattle.std.proofs.lemmas.List.{map_push}
use Rattle.planus_json_syntax.specs.declared.fault_kind.FaultKind.TheVariants as fault
use Rattle.planus_json_syntax.specs.Reading as spec
use Rattle.planus_json_syntax.specs.Values.{json_view, member_view}
use Rattle.planus_json_syntax.specs.Steps.{front_view}
use Rattle.planus_json_syntax.proofs.Lists.{MoreItems}
use Rattle.planus_json_syntax.proofs.Lists.{same_error, no_front, ends_at_once, no_item, no_end, ends, goes_on}
use Rattle.planus_json_syntax.proofs.Nested.{no_bracket, deep_list, deep_object, no_list, no_object, list_read, object_read}
use Rattle.planus_json_syntax.proofs.values.+values.Goals as goal

pub items_at-returns-in-Err-clause-reads : goal.items_at-returns-in-Err-clause-reads
items_at-returns-in-Err-clause-reads t c =
    same_error c.in-Err.error (spec.front_or fault.Value c.items.rest.now) (spec.items_at (spec.value_at c.args.len c.args.depth) 93 fault.Value fault.ListEnd c.args.bytes.now)
    (no_front (spec.value_at c.args.len c.args.depth) 93 fault.Value fault.ListEnd (map json_view c.items.items.items) c.items.rest.now
    (spec.items_at (spec.value_at c.args.len c.args.depth) 93 fault.Value fault.ListEnd c.args.bytes.now) c.items.invariant.reads) c.in-Err.ensures.reads

pub items_at-returns-then-is_mark_of-clause-reads : goal.items_at-returns-then-is_mark_of-clause-reads
items_at-returns-then-is_mark_of-clause-reads t c =
    ends_at_once (spec.value_at c.args.len c.args.depth) 93 fault.Value fault.ListEnd (map json_view c.items.items.items) c.items.rest.now
    (spec.items_at (spec.value_at c.args.len c.args.depth) 93 fault.Value fault.ListEnd c.args.bytes.now) c.items.invariant.reads (front_view c.in-Ok.value) c.in-Ok.ensures.reads
    (sym c.is_mark_of.ensures ∙ c.if-is_mark_of.true)

pub items_at-returns-in-Err-value_at-clause-reads : goal.items_at-returns-in-Err-value_at-clause-reads
items_at-returns-in-Err-value_at-clause-reads t c =
    same_error c.in-Err-value_at.error ((spec.value_at c.args.len c.args.depth) (front_view c.in-Ok.value)) (spec.items_at (spec.value_at c.args.len c.args.depth) 93 fault.Value fault.ListEnd c.args.bytes.now)
    (no_item (spec.value_at c.args.len c.args.depth) 93 fault.Value fault.ListEnd (map json_view c.items.items.items) c.items.rest.now
    (spec.items_at (spec.value_at c.args.len c.args.depth) 93 fault.Value fault.ListEnd c.args.bytes.now) c.items.invariant.reads (front_view c.in-Ok.value) c.in-Ok.ensures.reads (sym c.is_mark_of.ensures ∙ c.if-is_mark_of.false)) c.in-Err-value_at.ensures.reads

pub items_at-returns-in-Err-end_at-clause-reads : goal.items_at-returns-in-Err-end_at-clause-reads
items_at-returns-in-Err-end_at-clause-reads t c =
    same_error c.in-Err-end_at.error (spec.end_at 93 fault.ListEnd c.in-Ok-value_at.value.1.now) (spec.items_at (spec.value_at c.args.len c.args.depth) 93 fault.Value fault.ListEnd c.args.bytes.now)
    (no_end (spec.value_at c.args.len c.args.depth) 93 fault.Value fault.ListEnd (map json_view c.items.items.items) c.items.rest.now
    (spec.items_at (spec.value_at c.args.len c.args.depth) 93 fault.Value fault.ListEnd c.args.bytes.now) c.items.invariant.reads (front_view c.in-Ok.value) c.in-Ok.ensures.reads (sym c.is_mark_of.ensures ∙ c.if-is_mark_of.false)
    (json_view c.in-Ok-value_at.value.0) c.in-Ok-value_at.value.1.now c.in-Ok-value_at.ensures.reads) c.in-Err-end_at.ensures.reads

pub items_at-returns-then-closed-clause-reads : goal.items_at-returns-then-closed-clause-reads
items_at-returns-then-closed-clause-reads t c =
    let pushed : map json_view c.push.new.self.items ≡ map json_view c.items.items.items ++ json_view c.in-Ok-value_at.value.0 ∷ [] =
    rw c.in_ok-push.ensures.items (map_push json_view c.items.items.items c.in-Ok-value_at.value.0) in
    ends (spec.value_at c.args.len c.args.depth) 93 fault.Value fault.ListEnd (map json_view c.items.items.items) c.items.rest.now
    (spec.items_at (spec.value_at c.args.len c.args.depth) 93 fault.Value fault.ListEnd c.args.bytes.now) c.items.invariant.reads (front_view c.in-Ok.value) c.in-Ok.ensures.reads (sym c.is_mark_of.ensures ∙ c.if-is_mark_of.false)
    (json_view c.in-Ok-value_at.value.0) c.in-Ok-value_at.value.1.now c.in-Ok-value_at.ensures.reads c.in-Ok-end_at.value.1.now (c.in-Ok-end_at.ensures.reads ∙ ap (λ b. Ok (b, c.in-Ok-end_at.value.1.now)) c.if-closed.true)
    ∙ ap (λ found. Ok (found, c.in-Ok-end_at.value.1.now)) (sym pushed)

pub items_at-items-preserved : goal.items_at-items-preserved
items_at-items-preserved t c =
    let pushed : map json_view c.push.new.self.items ≡ map json_view c.items.items.items ++ json_view c.in-Ok-value_at.value.0 ∷ [] =
    rw c.in_ok-push.ensures.items (map_push json_view c.items.items.items c.in-Ok-value_at.value.0) in
    record {
      reads = subst (λ found. MoreItems (spec.value_at c.args.len c.args.depth) 93 fault.Value fault.ListEnd found c.in-Ok-end_at.value.1.now (spec.items_at (spec.value_at c.args.len c.args.depth) 93 fault.Value fault.ListEnd c.args.bytes.now)) (sym pushed)
          (goes_on (spec.value_at c.args.len c.args.depth) 93 fault.Value fault.ListEnd (map json_view c.items.items.items) c.items.rest.now
          (spec.items_at (spec.value_at c.args.len c.args.depth) 93 fault.Value fault.ListEnd c.args.bytes.now) c.items.invariant.reads (front_view c.in-Ok.value) c.in-Ok.ensures.reads (sym c.is_mark_of.ensures ∙ c.if-is_mark_of.false)
          (json_view c.in-Ok-value_at.value.0) c.in-Ok-value_at.value.1.now c.in-Ok-value_at.ensures.reads c.in-Ok-end_at.value.1.now (c.in-Ok-end_at.ensures.reads ∙ ap (λ b. Ok (b, c.in-Ok-end_at.value.1.now)) c.if-closed.false) (omega (arith, c.in-Ok-end_at.ensures.shorter, c.in-Ok-value_at.ensures.shorter, c.in-Ok.ensures.fits.begins, c.items.invariant.shorter)));
      shorter = omega (arith, c.in-Ok-end_at.ensures.shorter, c.in-Ok-value_at.ensures.shorter, c.in-Ok.ensures.fits.begins, c.items.invariant.shorter);
    }

pub members_at-returns-in-Err-clause-reads : goal.members_at-returns-in-Err-clause-reads
members_at-returns-in-Err-clause-reads t c =
    same_error c.in-Err.error (spec.front_or fault.Key c.members.rest.now) (spec.items_at (spec.member_of c.args.len (spec.value_at c.args.len c.args.depth)) 125 fault.Key fault.ObjectEnd c.args.bytes.now)
    (no_front (spec.member_of c.args.len (spec.value_at c.args.len c.args.depth)) 125 fault.Key fault.ObjectEnd (map member_view c.members.members.items) c.members.rest.now
    (spec.items_at (spec.member_of c.args.len (spec.value_at c.args.len c.args.depth)) 125 fault.Key fault.ObjectEnd c.args.bytes.now) c.members.invariant.reads) c.in-Err.ensures.reads

pub members_at-returns-then-is_mark_of-clause-reads : goal.members_at-returns-then-is_mark_of-clause-reads
members_at-returns-then-is_mark_of-clause-reads t c =
    ends_at_once (spec.member_of c.args.len (spec.value_at c.args.len c.args.depth)) 125 fault.Key fault.ObjectEnd (map member_view c.members.members.items) c.members.rest.now
    (spec.items_at (spec.member_of c.args.len (spec.value_at c.args.len c.args.depth)) 125 fault.Key fault.ObjectEnd c.args.bytes.now) c.members.invariant.reads (front_view c.in-Ok.value) c.in-Ok.ensures.reads
    (sym c.is_mark_of.ensures ∙ c.if-is_mark_of.true)

pub members_at-returns-in-Err-member_at-clause-reads : goal.members_at-returns-in-Err-member_at-clause-reads
members_at-returns-in-Err-member_at-clause-reads t c =
    same_error c.in-Err-member_at.error ((spec.member_of c.args.len (spec.value_at c.args.len c.args.depth)) (front_view c.in-Ok.value)) (spec.items_at (spec.member_of c.args.len (spec.value_at c.args.len c.args.depth)) 125 fault.Key fault.ObjectEnd c.args.bytes.now)
    (no_item (spec.member_of c.args.len (spec.value_at c.args.len c.args.depth)) 125 fault.Key fault.ObjectEnd (map member_view c.members.members.items) c.members.rest.now
    (spec.items_at (spec.member_of c.args.len (spec.value_at c.args.len c.args.depth)) 125 fault.Key fault.ObjectEnd c.args.bytes.now) c.members.invariant.reads (front_view c.in-Ok.value) c.in-Ok.ensures.reads (sym c.is_mark_of.ensures ∙ c.if-is_mark_of.false)) c.in-Err-member_at.ensures.reads

pub members_at-returns-in-Err-end_at-clause-reads : goal.members_at-returns-in-Err-end_at-clause-reads
members_at-returns-in-Err-end_at-clause-reads t c =
    same_error c.in-Err-end_at.error (spec.end_at 125 fault.ObjectEnd c.in-Ok-member_at.value.1.now) (spec.items_at (spec.member_of c.args.len (spec.value_at c.args.len c.args.depth)) 125 fault.Key fault.ObjectEnd c.args.bytes.now)
    (no_end (spec.member_of c.args.len (spec.value_at c.args.len c.args.depth)) 125 fault.Key fault.ObjectEnd (map member_view c.members.members.items) c.members.rest.now
    (spec.items_at (spec.member_of c.args.len (spec.value_at c.args.len c.args.depth)) 125 fault.Key fault.ObjectEnd c.args.bytes.now) c.members.invariant.reads (front_view c.in-Ok.value) c.in-Ok.ensures.reads (sym c.is_mark_of.ensures ∙ c.if-is_mark_of.false)
    (member_view c.in-Ok-member_at.value.0) c.in-Ok-member_at.value.1.now c.in-Ok-member_at.ensures.reads) c.in-Err-end_at.ensures.reads

pub members_at-returns-then-closed-clause-reads : goal.members_at-returns-then-closed-clause-reads
members_at-returns-then-closed-clause-reads t c =
    let pushed : map member_view c.push.new.self.items ≡ map member_view c.members.members.items ++ member_view c.in-Ok-member_at.value.0 ∷ [] =
    rw c.in_ok-push.ensures.items (map_push member_view c.members.members.items c.in-Ok-member_at.value.0) in
    ends (spec.member_of c.args.len (spec.value_at c.args.len c.args.depth)) 125 fault.Key fault.ObjectEnd (map member_view c.members.members.items) c.members.rest.now
    (spec.items_at (spec.member_of c.args.len (spec.value_at c.args.len c.args.depth)) 125 fault.Key fault.ObjectEnd c.args.bytes.now) c.members.invariant.reads (front_view c.in-Ok.value) c.in-Ok.ensures.reads (sym c.is_mark_of.ensures ∙ c.if-is_mark_of.false)
    (member_view c.in-Ok-member_at.value.0) c.in-Ok-member_at.value.1.now c.in-Ok-member_at.ensures.reads c.in-Ok-end_at.value.1.now (c.in-Ok-end_at.ensures.reads ∙ ap (λ b. Ok (b, c.in-Ok-end_at.value.1.now)) c.if-closed.true)
    ∙ ap (λ found. Ok (found, c.in-Ok-end_at.value.1.now)) (sym pushed)

pub members_at-members-preserved : goal.members_at-members-preserved
members_at-members-preserved t c =
    let pushed : map member_view c.push.new.self.items ≡ map member_view c.members.members.items ++ member_view c.in-Ok-member_at.value.0 ∷ [] =
    rw c.in_ok-push.ensures.items (map_push member_view c.members.members.items c.in-Ok-member_at.value.0) in
    record {
      reads = subst (λ found. MoreItems (spec.member_of c.args.len (spec.value_at c.args.len c.args.depth)) 125 fault.Key fault.ObjectEnd found c.in-Ok-end_at.value.1.now (spec.items_at (spec.member_of c.args.len (spec.value_at c.args.len c.args.depth)) 125 fault.Key fault.ObjectEnd c.args.bytes.now)) (sym pushed)
          (goes_on (spec.member_of c.args.len (spec.value_at c.args.len c.args.depth)) 125 fault.Key fault.ObjectEnd (map member_view c.members.members.items) c.members.rest.now
          (spec.items_at (spec.member_of c.args.len (spec.value_at c.args.len c.args.depth)) 125 fault.Key fault.ObjectEnd c.args.bytes.now) c.members.invariant.reads (front_view c.in-Ok.value) c.in-Ok.ensures.reads (sym c.is_mark_of.ensures ∙ c.if-is_mark_of.false)
          (member_view c.in-Ok-member_at.value.0) c.in-Ok-member_at.value.1.now c.in-Ok-member_at.ensures.reads c.in-Ok-end_at.value.1.now (c.in-Ok-end_at.ensures.reads ∙ ap (λ b. Ok (b, c.in-Ok-end_at.value.1.now)) c.if-closed.false) (omega (arith, c.in-Ok-end_at.ensures.shorter, c.in-Ok-member_at.ensures.shorter, c.in-Ok.ensures.fits.begins, c.members.invariant.shorter)));
      shorter = omega (arith, c.in-Ok-end_at.ensures.shorter, c.in-Ok-member_at.ensures.shorter, c.in-Ok.ensures.fits.begins, c.members.invariant.shorter);
    }

pub nested_at-returns-then-depth-eq0-clause-reads : goal.nested_at-returns-then-depth-eq0-clause-reads
nested_at-returns-then-depth-eq0-clause-reads t c = deep_list c.args.len c.args.depth c.args.left c.args.rest.now c.args.mark c.if-depth-eq0.true c.if-mark-eq91.true

pub nested_at-returns-then-depth-eq0-2-clause-reads : goal.nested_at-returns-then-depth-eq0-2-clause-reads
nested_at-returns-then-depth-eq0-2-clause-reads t c = deep_object c.args.len c.args.depth c.args.left c.args.rest.now c.args.mark c.if-depth-eq0-2.true c.if-mark-eq123.true

pub nested_at-returns-in-Err-clause-reads : goal.nested_at-returns-in-Err-clause-reads
nested_at-returns-in-Err-clause-reads t c =
    same_error c.in-Err.error (spec.items_at (spec.value_at c.args.len (c.args.depth - 1)) 93 fault.Value fault.ListEnd c.args.rest.now)
    (spec.nested_at c.args.len c.args.depth c.args.left c.args.rest.now c.args.mark) (no_list c.args.len c.args.depth c.args.left c.args.rest.now c.args.mark (omega arith) c.if-mark-eq91.true) c.in-Err.ensures.reads

pub nested_at-returns-in-Err-members_at-clause-reads : goal.nested_at-returns-in-Err-members_at-clause-reads
nested_at-returns-in-Err-members_at-clause-reads t c =
    same_error c.in-Err-members_at.error (spec.items_at (spec.member_of c.args.len (spec.value_at c.args.len (c.args.depth - 1))) 125 fault.Key fault.ObjectEnd c.args.rest.now)
    (spec.nested_at c.args.len c.args.depth c.args.left c.args.rest.now c.args.mark) (no_object c.args.len c.args.depth c.args.left c.args.rest.now c.args.mark (omega arith) c.if-mark-eq123.true) c.in-Err-members_at.ensures.reads

pub nested_at-returns-then-mark-eq91-clause-reads : goal.nested_at-returns-then-mark-eq91-clause-reads
nested_at-returns-then-mark-eq91-clause-reads t c =
    list_read c.args.len c.args.depth c.args.left c.args.rest.now c.args.mark (omega arith) c.if-mark-eq91.true c.in-Ok.value.0 c.in-Ok.value.1.now c.in-Ok.ensures.reads

pub nested_at-returns-then-mark-eq123-clause-reads : goal.nested_at-returns-then-mark-eq123-clause-reads
nested_at-returns-then-mark-eq123-clause-reads t c =
    object_read c.args.len c.args.depth c.args.left c.args.rest.now c.args.mark (omega arith) c.if-mark-eq123.true c.in-Ok-members_at.value.0 c.in-Ok-members_at.value.1.now c.in-Ok-members_at.ensures.reads

pub nested_at-returns-clause-reads : goal.nested_at-returns-clause-reads
nested_at-returns-clause-reads t c = no_bracket c.args.len c.args.depth c.args.left c.args.rest.now c.args.mark (grind arith) (grind arith)
