-- The parts of a table, put at once.
use Rattle.std.proofs.Common.{◌≡◌, ℕ, ◌+◌, ◌-◌, ◌≤◌, List, [], ◌++◌, Bool, true, false, length, replicate, refl, sym, ap, subst, ◌∙◌, arith}
use Rattle.std.proofs.Common.{length-append, append_assoc, Some, None, pos, ◌-ℤ◌}
use Rattle.std.proofs.lemmas.List.{length-replicate}
use Rattle.std.specs.Int.{w32, to_le_bytes, cast_unsigned}
use Rattle.planus_back.specs.CacheKeys.{vtable_in}
use Rattle.planus_back.specs.Parts.{Part}
use Rattle.planus_write.specs.inner.Backed.{Backed, Plans}
use Rattle.planus_write.specs.History.{History, unshared_entry}
use Rattle.planus_write.specs.Placing.{PlacesEntry}
use Rattle.planus_write.specs.Shared.{vtables}
use Rattle.planus_write.specs.inner.Sharing.{FindsIf, KeepsIf}
use Rattle.planus_write.specs.State.{State, IsHistoryOf}
use Rattle.planus_write.specs.Tables.{vtable_part, vtable_entry, word_part}
use Rattle.planus_write.specs.View.{state_of}
use Rattle.planus_write.specs.inner.WholeTables.{PutsPart, PutsParts, PutsPartsIf, PutsTable, PutsTableIf}
use Rattle.planus_write.specs.declared.backing.Plan.{Plan}
use Rattle.planus_write.specs.declared.builder.Builder.TheInside.{Inside}
use Rattle.planus_write.specs.lemmas.KeptTables.{new_vtables}
use Rattle.planus_write.proofs.ContentsInFront.{vtable_in_front}
use Rattle.planus_write.proofs.PlacedParts.{shared_down, part_put, part_ends, new_bytes, new_length, at_its_place, still_sound}
use Rattle.planus_write.proofs.PlannedRoom.{makes_room}

abbrev padded : Plan → Backed → Backed
padded plan old = record {
  bytes = replicate plan.padding 0 ++ old.bytes;
  delayed = plan.promises.delayed;
  mask = plan.promises.mask;
  room = old.room - plan.padding;
}

abbrev with_part : Part → Plan → Backed → Backed
with_part part plan old = record (padded plan old) {
  bytes = part.bytes_at plan.place ++ (replicate plan.padding 0 ++ old.bytes);
  room = old.room - plan.padding - length (part.bytes_at plan.place);
}

module _ (part : Part) (old : Backed) (plan : Plan) (plans : Plans part.size part.alignment old plan) (count : length (part.bytes_at plan.place) ≡ part.size) where
  planned_length : length (with_part part plan old).bytes ≡ plan.place
  planned_length = simp (length-append, length-replicate) (let h = count in let g = plans.is_place in omega arith)

  planned_put : plan.padding + part.size ≤ old.room → PutsPart part old plan.place (with_part part plan old)
  planned_put within = record {
    between = padded plan old;
    room = makes_room part.size part.alignment old old (padded plan old) plan plans (record { unchanged = refl; more = omega arith; enough = within; as_was = λ fits. refl }) refl;
    count = count;
    put = refl;
  }

abbrev pub PlansBehind : Plan → (size alignment : ℕ) → Plan → Type 0
PlansBehind before size alignment plan =
    (backed : Backed) → length backed.bytes ≡ before.place → backed.delayed ≡ before.promises.delayed → backed.mask ≡ before.promises.mask → Plans size alignment backed plan

module _ (vtable : List ℕ) (body : Part) (old new : Backed) (first second third : Plan) (first_planned : Plans (length vtable) 2 old first)
    (second_planned : PlansBehind first body.size body.alignment second) (third_planned : PlansBehind second 4 1 third)
    (count : length (body.bytes_at second.place) ≡ body.size) (word : List ℕ)
    (word_is : word ≡ to_le_bytes w32 (cast_unsigned w32 (pos first.place -ℤ pos third.place)))
    (within : first.padding + length vtable + second.padding + body.size + 4 ≤ old.room)
    (bytes : new.bytes ≡ word ++ (body.bytes_at second.place ++ (replicate second.padding 0 ++ (vtable ++ (replicate first.padding 0 ++ old.bytes)))))
    (room : new.room + (first.padding + length vtable + second.padding + body.size + length word) ≡ old.room)
    (delayed : new.delayed ≡ third.promises.delayed) (mask : new.mask ≡ third.promises.mask) where
  abbrev one : Backed
  one = with_part (vtable_part vtable) first old

  abbrev two : Backed
  two = with_part body second one

  abbrev three : Backed
  three = with_part (word_part first.place) third two

  one_long : length one.bytes ≡ first.place
  one_long = planned_length (vtable_part vtable) old first first_planned refl

  second_plans : Plans body.size body.alignment one second
  second_plans = second_planned one one_long refl refl

  two_long : length two.bytes ≡ second.place
  two_long = planned_length body one second second_plans count

  third_plans : Plans 4 1 two third
  third_plans = third_planned two two_long refl refl

  none : third.padding ≡ 0
  none = omega (arith, third_plans.below)

  same : three ≡ new
  same =
      let rest : List ℕ = body.bytes_at second.place ++ (replicate second.padding 0 ++ (vtable ++ (replicate first.padding 0 ++ old.bytes))) in
      let there : three.bytes ≡ new.bytes = ap (λ n. (word_part first.place).bytes_at third.place ++ (replicate n 0 ++ rest)) none ∙ ap (λ w. w ++ rest) (sym word_is) ∙ sym bytes in
      let left : three.room ≡ new.room = omega (arith, room, count, ap length word_is, none) in
      λ k. record { bytes = there k; delayed = sym delayed k; mask = sym mask k; room = left k }

  pub puts_parts : PutsParts vtable body old new
  puts_parts = record {
    vtable_at = first.place;
    first = one;
    vtable_put = planned_put (vtable_part vtable) old first first_planned refl (omega (arith, within));
    body_at = second.place;
    second = two;
    body_put = planned_put body one second second_plans count (omega (arith, within));
    table_at = third.place;
    word_put = rw (← same) (planned_put (word_part first.place) two third third_plans refl (omega (arith, within, count, none)));
  }

module _ (vtable : List ℕ) (body : Part) (a : Inside) (off : a.vtables.on ≡ false) (is_vtable : vtable_in vtable ≡ Some vtable) where
  vtable_down : (place : ℕ) (new : Backed) → PutsPart (vtable_part vtable) a.backing place new → PlacesEntry (vtable_entry vtable) [] (state_of a) place (state_of (record a { backing = new }))
  vtable_down place new h =
      let none : FindsIf a.vtables.on vtable_in a.vtables.holding a.backing.bytes vtable None = subst (λ on. FindsIf on vtable_in a.vtables.holding a.backing.bytes vtable None) (sym off) refl in
      let keeps : KeepsIf a.vtables.on vtable_in a.backing.bytes vtable place a.vtables.holding a.vtables.holding = subst (λ on. KeepsIf on vtable_in a.backing.bytes vtable place a.vtables.holding a.vtables.holding) (sym off) refl in
      let there = new_bytes (length vtable) 2 place a.backing h.between new vtable h.room refl h.put ∙ append_assoc vtable (replicate h.room.padding 0) a.backing.bytes in
      let in_front : vtable_in new.bytes ≡ Some vtable = ap vtable_in there ∙ vtable_in_front vtable (replicate h.room.padding 0 ++ a.backing.bytes) vtable is_vtable in
      let long : length new.bytes ≡ place = new_length (length vtable) 2 place a.backing h.between new vtable h.room refl h.put in
      shared_down vtables vtable (vtable_part vtable) [] a.backing (state_of a).settings (state_of a).holdings place h.between new a.vtables.holding vtable none h.room keeps refl refl h.put
      (at_its_place vtable_in new.bytes place vtable long in_front) (new_vtables vtable)

  part_down : (part : Part) (old new : Backed) (place : ℕ) → PutsPart part old place new
      → PlacesEntry (unshared_entry part) [] (state_of (record a { backing = old })) place (state_of (record a { backing = new }))
  part_down part old new place h = part_put part place old h.between new (state_of a).settings (state_of a).holdings h.room h.count h.put

  puts_table : (new : Backed) → PutsParts vtable body a.backing new → PutsTable vtable body (state_of a) (state_of (record a { backing = new }))
  puts_table new h = record {
    vtable_at = h.vtable_at;
    first = state_of (record a { backing = h.first });
    vtable_put = vtable_down h.vtable_at h.first h.vtable_put;
    body_at = h.body_at;
    second = state_of (record a { backing = h.second });
    body_put = part_down body h.first h.second h.body_at h.body_put;
    table_at = h.table_at;
    word_put = part_down (word_part h.vtable_at) h.second new h.table_at h.word_put;
    last = sym (part_ends (word_part h.vtable_at) h.table_at h.second h.word_put.between new (state_of a).settings (state_of a).holdings h.word_put.room h.word_put.count h.word_put.put);
  }

  pub puts_table_if : (put : Bool) (new : Backed) → PutsPartsIf put vtable body a.backing new → PutsTableIf put vtable body (state_of a) (state_of (record a { backing = new }))
  puts_table_if true new h = puts_table new h
  puts_table_if false new h = ap (λ backing. state_of (record a { backing = backing })) h

pub table_sound : (put : Bool) (vtable : List ℕ) (body : Part) (old new : State) → (history : History) × IsHistoryOf old history → PutsTableIf put vtable body old new → (history : History) × IsHistoryOf new history
table_sound true vtable body old new sound h =
    let first = still_sound (vtable_entry vtable) [] old h.first h.vtable_at sound h.vtable_put in
    let second = still_sound (unshared_entry body) [] h.first h.second h.body_at first h.body_put in
    still_sound (unshared_entry (word_part h.vtable_at)) [] h.second new h.table_at second h.word_put
table_sound false vtable body old new sound h = subst (λ (state : State). (history : History) × IsHistoryOf state history) (sym h) sound

pub table_put : (put : Bool) (vtable : List ℕ) (body : Part) (old new : State) → put ≡ true → PutsTableIf put vtable body old new → PutsTable vtable body old new
table_put put vtable body old new is h = subst (λ b. PutsTableIf b vtable body old new) is h

pub nothing_done : (put : Bool) (vtable : List ℕ) (body : Part) (old new : State) → put ≡ false → PutsTableIf put vtable body old new → new ≡ old
nothing_done put vtable body old new is h = subst (λ b. PutsTableIf b vtable body old new) is h
