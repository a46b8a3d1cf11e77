-- Tables whose entries pass the test can be declared.
use Rattle.std.proofs.Common.{◌≡◌, ℕ, ◌+◌, ◌*◌, ◌≤◌, max, List, [], ◌∷◌, ◌++◌, length, refl, sym, subst, ap, ◌∙◌, arith, Bool, true, false, Option, Some, None, Ok, inl, inr}
use Rattle.std.specs.Prelude.{not, leb, ◌==◌, if◌then◌else◌, ⊤}
use Rattle.std.specs.List.{AllByRecursion}
use Rattle.std.proofs.lemmas.Bool.{and_from, and_parts, leb-true, eqb-false, ne_eqb, not-true}
use Rattle.planus_read.specs.Values.{Field, table, field_at, slot_count}
use Rattle.planus_read.specs.Aligned.{field_alignment}
use Rattle.planus_write.specs.Kept.{IsKept}
use Rattle.planus_write.specs.History.{History}
use Rattle.planus_write.specs.Preparing.{WritesEntries}
use Rattle.planus_write.specs.Parts.{entries_of}
use Rattle.planus_write.specs.State.{State}
use Rattle.planus_write.specs.Tables.{Declared, declared_of, total_size, body_bytes, slots_used, object_entries, IsFieldAfter, IsTable, Falling, SlotsOnce}
use Rattle.planus_write.specs.TableWriting.{Writer, WritesTable, slot_position, blank}
use Rattle.planus_write.specs.declared.offset.Offset.{Offset}
use Rattle.planus_write.specs.lemmas.PutEntries.{entries_put}
use Rattle.planus_write.specs.lemmas.StandingLaws.{values_are_kept}
use Rattle.planus_write.specs.lemmas.Staying.{kept_stays}
use Rattle.planus.specs.TableFields.{IsUnused}
use Rattle.planus.specs.TableRules.{is_apart, has_slots, is_falling, can_hold, Among}
use Rattle.planus_write.specs.lemmas.Laws.{extends_on, extends_itself}
use Rattle.std.proofs.lemmas.List.{append-nil}
use Rattle.planus_write.specs.Contents.{Content, Comes, named_at}
use Rattle.planus.specs.Contents.{FieldsAre, there_of, StillKept, TableIsKept, WritesRest}
use Rattle.planus.specs.lemmas.ContentLaws.{fields_stay, contents_both}
use Rattle.planus.specs.lemmas.PreparingLaws.{among_both, stand_both, entries_append}
use Rattle.planus.proofs.FieldLists.{blank_unused}

pub record Holds (n : ℕ) (all : List Declared) : Type 0 where
  pub enough : 4 ≤ n
  pub small : n ≤ 65534
  pub fits : 4 + total_size all ≤ 65535
  pub slots : has_slots n all ≡ true
  pub falling : is_falling 1073741824 all ≡ true

pub holds : (n : ℕ) (all : List Declared) → can_hold n all ≡ true → Holds n all
holds n all h =
    let one = and_parts (leb 4 n) _ h in
    let two = and_parts (leb n 65534) _ one.1 in
    let three = and_parts (leb (4 + total_size all) 65535) _ two.1 in
    let four = and_parts (has_slots n all) _ three.1 in
    record {
      enough = leb-true 4 n one.0;
      small = leb-true n 65534 two.0;
      fits = leb-true (4 + total_size all) 65535 three.0;
      slots = four.0;
      falling = four.1;
    }

pub slots_parts : (n : ℕ) (one : Declared) (all : List Declared) → has_slots n (one ∷ all) ≡ true
    → (slot_position one.slot + 2 ≤ n) × (is_apart one.slot all ≡ true) × (has_slots n all ≡ true)
slots_parts n one all h =
    let first = and_parts (leb (slot_position one.slot + 2) n) _ h in
    let second = and_parts (is_apart one.slot all) _ first.1 in
    (leb-true (slot_position one.slot + 2) n first.0, second.0, second.1)

apart_parts : (slot : ℕ) (one : Declared) (all : List Declared) → is_apart slot (one ∷ all) ≡ true
    → ((one.slot == slot) ≡ false) × (is_apart slot all ≡ true)
apart_parts slot one all h =
    let parts = and_parts (not (one.slot == slot)) _ h in
    (not-true (one.slot == slot) parts.0, parts.1)

pub rest_unused : (before after : Writer) (slot : ℕ) (all : List Declared)
    → is_apart slot all ≡ true
    → ((other : ℕ) → (other ≡ slot → ⊥) → IsUnused before other → IsUnused after other)
    → AllByRecursion (λ one. IsUnused before one.slot) all
    → AllByRecursion (λ one. IsUnused after one.slot) all
rest_unused before after slot [] apart others unused = tt
rest_unused before after slot (one ∷ all) apart others unused =
    let parts = apart_parts slot one all apart in (
      others one.slot (eqb-false one.slot slot parts.0) unused.0,
      rest_unused before after slot all parts.1 others unused.1,
    )

pub apart_append : (slot : ℕ) (all others : List Declared) → is_apart slot (all ++ others) ≡ true
    → (is_apart slot all ≡ true) × AllByRecursion (λ one. (one.slot == slot) ≡ false) others
apart_append slot [] [] apart = (refl, tt)
apart_append slot [] (one ∷ others) apart =
    let parts = apart_parts slot one others apart in
    (refl, (parts.0, (apart_append slot [] others parts.1).1))
apart_append slot (one ∷ all) others apart =
    let parts = and_parts (not (one.slot == slot)) _ apart in
    let rest = apart_append slot all others parts.1 in
    (and_from (not (one.slot == slot)) _ parts.0 rest.0, rest.1)

more_apart : (one : Declared) (all others : List Declared)
    → AllByRecursion (λ other. (other.slot == one.slot) ≡ false) others
    → AllByRecursion (λ other. is_apart other.slot all ≡ true) others
    → AllByRecursion (λ other. is_apart other.slot (one ∷ all) ≡ true) others
more_apart one all [] differ apart = tt
more_apart one all (other ∷ others) differ apart =
    let no : (one.slot == other.slot) ≡ false
    = ne_eqb one.slot other.slot (λ same. eqb-false other.slot one.slot differ.0 (sym same)) in (
      and_from (not (one.slot == other.slot)) _ (ap not no) apart.0,
      more_apart one all others differ.1 apart.1,
    )

none_apart : (others : List Declared) → AllByRecursion (λ other. is_apart other.slot [] ≡ true) others
none_apart [] = tt
none_apart (other ∷ others) = (refl, none_apart others)

pub record BothHaveSlots (n : ℕ) (all others : List Declared) : Type 0 where
  pub first : has_slots n all ≡ true
  pub second : has_slots n others ≡ true
  pub apart : AllByRecursion (λ other. is_apart other.slot all ≡ true) others

pub slots_append : (n : ℕ) (all others : List Declared) → has_slots n (all ++ others) ≡ true
    → BothHaveSlots n all others
slots_append n [] others slots = record { first = refl; second = slots; apart = none_apart others }
slots_append n (one ∷ all) others slots =
    let parts = and_parts (leb (slot_position one.slot + 2) n) _ slots in
    let second = and_parts (is_apart one.slot (all ++ others)) _ parts.1 in
    let here = apart_append one.slot all others second.0 in
    let rest = slots_append n all others second.1 in
    record {
      first = and_from (leb (slot_position one.slot + 2) n) _ parts.0
          (and_from (is_apart one.slot all) _ here.0 rest.first);
      second = rest.second;
      apart = more_apart one all others here.1 rest.apart;
    }

pub unused_parts : (writer : Writer) (all others : List Declared)
    → AllByRecursion (λ one. IsUnused writer one.slot) (all ++ others)
    → AllByRecursion (λ one. IsUnused writer one.slot) all × AllByRecursion (λ one. IsUnused writer one.slot) others
unused_parts writer [] others unused = (tt, unused)
unused_parts writer (one ∷ all) others unused =
    let rest = unused_parts writer all others unused.1 in ((unused.0, rest.0), rest.1)

pub others_unused : (before after : Writer) (all others : List Declared)
    → AllByRecursion (λ other. is_apart other.slot all ≡ true) others
    → ((other : ℕ) → is_apart other all ≡ true → IsUnused before other → IsUnused after other)
    → AllByRecursion (λ other. IsUnused before other.slot) others
    → AllByRecursion (λ other. IsUnused after other.slot) others
others_unused before after all [] apart stays unused = tt
others_unused before after all (other ∷ others) apart stays unused = (
  stays other.slot apart.0 unused.0,
  others_unused before after all others apart.1 stays unused.1,
)

pub all_unused : (writer : Writer) (n : ℕ) (all : List Declared) → writer ≡ blank n
    → has_slots n all ≡ true → AllByRecursion (λ one. IsUnused writer one.slot) all
all_unused writer n [] is_blank slots = tt
all_unused writer n (one ∷ all) is_blank slots =
    let parts = slots_parts n one all slots in
    (blank_unused writer n one.slot is_blank parts.0, all_unused writer n all is_blank parts.2)

some_size : (fields : List (ℕ × Field)) (all : List Declared) → Among (declared_of fields) all
    → total_size (declared_of fields) ≤ total_size all
some_size [] all among = omega arith
some_size (entry ∷ fields) [] among = elim among [ ]
some_size (entry ∷ fields) (one ∷ all) (inl among) =
    let e = ap (λ (one : Declared). one.size) among.0 in
    let rest = some_size fields all among.1 in
    omega (arith, e, rest)
some_size (entry ∷ fields) (one ∷ all) (inr among) =
    let rest = some_size (entry ∷ fields) all among in omega (arith, rest)

some_slots : (n : ℕ) (fields : List (ℕ × Field)) (all : List Declared) → 4 ≤ n
    → Among (declared_of fields) all → has_slots n all ≡ true → 4 + 2 * slot_count fields ≤ n
some_slots n [] all enough among slots = omega (arith, enough)
some_slots n (entry ∷ fields) [] enough among slots = elim among [ ]
some_slots n (entry ∷ fields) (one ∷ all) enough (inl among) slots =
    let parts = slots_parts n one all slots in
    let here = parts.0 in
    let e = ap (λ (one : Declared). one.slot) among.0 in
    let rest = some_slots n fields all enough among.1 parts.2 in
    omega (arith, e, here, rest)
some_slots n (entry ∷ fields) (one ∷ all) enough (inr among) slots =
    some_slots n (entry ∷ fields) all enough among (slots_parts n one all slots).2

some_apart : (slot : ℕ) (fields : List (ℕ × Field)) (all : List Declared)
    → Among (declared_of fields) all → is_apart slot all ≡ true → field_at fields slot ≡ None
some_apart slot [] all among apart = refl
some_apart slot (entry ∷ fields) [] among apart = elim among [ ]
some_apart slot (entry ∷ fields) (one ∷ all) (inl among) apart =
    let parts = apart_parts slot one all apart in
    let e = ap (λ (one : Declared). one.slot) among.0 in
    let no : (entry.0 == slot) ≡ false
    = subst (λ (n : ℕ). (n == slot) ≡ false) (sym e) parts.0 in
    ap (λ (b : Bool). if b then Some entry.1 else field_at fields slot) no
    ∙ some_apart slot fields all among.1 parts.1
some_apart slot (entry ∷ fields) (one ∷ all) (inr among) apart =
    some_apart slot (entry ∷ fields) all among (apart_parts slot one all apart).1

some_once : (n : ℕ) (fields : List (ℕ × Field)) (all : List Declared)
    → Among (declared_of fields) all → has_slots n all ≡ true → SlotsOnce fields
some_once n [] all among slots = tt
some_once n (entry ∷ fields) [] among slots = elim among [ ]
some_once n (entry ∷ fields) (one ∷ all) (inl among) slots =
    let parts = slots_parts n one all slots in
    let e = ap (λ (one : Declared). one.slot) among.0 in (
      some_apart entry.0 fields all among.1
          (subst (λ (slot : ℕ). is_apart slot all ≡ true) (sym e) parts.1),
      some_once n fields all among.1 parts.2,
    )
some_once n (entry ∷ fields) (one ∷ all) (inr among) slots =
    some_once n (entry ∷ fields) all among (slots_parts n one all slots).2

abbrev FallingFrom : ℕ → List (ℕ × Field) → Type 0
FallingFrom bound [] = ⊤
FallingFrom bound (entry ∷ fields) =
    (field_alignment entry.1 ≤ bound) × FallingFrom (field_alignment entry.1) fields

lower : (bound higher : ℕ) (fields : List (ℕ × Field)) → bound ≤ higher → FallingFrom bound fields
    → FallingFrom higher fields
lower bound higher [] le h = tt
lower bound higher (entry ∷ fields) le h = let here = h.0 in (omega (arith, here, le), h.1)

some_falling : (bound : ℕ) (fields : List (ℕ × Field)) (all : List Declared)
    → Among (declared_of fields) all → is_falling bound all ≡ true → FallingFrom bound fields
some_falling bound [] all among falls = tt
some_falling bound (entry ∷ fields) [] among falls = elim among [ ]
some_falling bound (entry ∷ fields) (one ∷ all) (inl among) falls =
    let parts = and_parts (leb one.alignment bound) _ falls in
    let here = leb-true one.alignment bound parts.0 in
    let e = ap (λ (one : Declared). one.alignment) among.0 in (
      omega (arith, e, here),
      subst (λ (n : ℕ). FallingFrom n fields) (sym e)
          (some_falling one.alignment fields all among.1 parts.1),
    )
some_falling bound (entry ∷ fields) (one ∷ all) (inr among) falls =
    let parts = and_parts (leb one.alignment bound) _ falls in
    lower one.alignment bound (entry ∷ fields) (leb-true one.alignment bound parts.0)
    (some_falling one.alignment (entry ∷ fields) all among parts.1)

falling : (bound : ℕ) (fields : List (ℕ × Field)) → FallingFrom bound fields → Falling fields
falling bound [] h = tt
falling bound (entry ∷ []) h = tt
falling bound (first ∷ second ∷ fields) h =
    (h.1.0, falling (field_alignment first.1) (second ∷ fields) h.1)

is_table : (n before : ℕ) (fields : List (ℕ × Field)) (all : List Declared) → Holds n all
    → Among (declared_of fields) all → AllByRecursion (λ entry. IsFieldAfter before entry.1) fields
    → IsTable before fields
is_table n before fields all rules among stand =
    let slots = some_slots n fields all rules.enough among rules.slots in
    let small = rules.small in
    let size = some_size fields all among in
    let fits = rules.fits in
    record {
      fields = stand;
      falling = falling 1073741824 fields (some_falling 1073741824 fields all among rules.falling);
      once = some_once n fields all among rules.slots;
      vtable_fits = omega (arith, slots, small);
      object_fits = omega (arith, size, fits);
    }

slots_counted : (fields : List (ℕ × Field)) → slots_used (declared_of fields) ≡ slot_count fields
slots_counted [] = refl
slots_counted (entry ∷ fields) = ap (max (entry.0 + 1)) (slots_counted fields)

pub contents_kept : {T : Type 0} (n : ℕ) (all : List Declared) (fields : List (ℕ × Field))
    (contents : List (ℕ × Option Content)) (between : State) → Holds n all
    → Among (declared_of fields) all
    → AllByRecursion (λ entry. IsFieldAfter (length between.bytes) entry.1) fields
    → (unit : Unit {0}) (offset : Offset T) (new : State)
    → WritesTable (declared_of fields) (λ place. body_bytes place fields) between (Ok unit) new
    → offset.distance ≡ length new.bytes → (history : History)
    → Comes history between (λ after. FieldsAre after (there_of contents) fields)
    → Comes history new (λ after. StillKept history after × TableIsKept after contents offset.distance)
contents_kept n all fields contents between rules among stand unit offset new written at history
    prepared =
    let mid = prepared.0 in
    let is_history = prepared.1 in
    let entries = subst
    (λ (slots : ℕ).
    WritesEntries (object_entries slots (declared_of fields) (λ place. body_bytes place fields)) []
    between (Ok written.0) new)
    (slots_counted fields) written.1 in
    let placed = entries_put (entries_of (table fields)) [] between written.0 new mid entries
    is_history in
    let stand_history = subst
    (λ (bytes : List ℕ). AllByRecursion (λ entry. IsFieldAfter (length bytes) entry.1) fields)
    (sym is_history.bytes) stand in
    let kept = values_are_kept between.settings (table fields) mid written.0 placed.0
    (is_table n (length mid.written.bytes) fields all rules among stand_history) is_history.kept
    placed.1 in
    let extends = extends_on history mid placed.0 prepared.2 kept.2 in (
      placed.0,
      placed.2,
      extends,
      (
        (λ value named before. kept_stays history placed.0 value named extends before),
        record {
          fields = fields;
          are = fields_stay mid placed.0 (there_of contents) fields kept.2 prepared.3;
          table_kept = subst (λ (d : ℕ). IsKept placed.0 (table fields) (named_at d))
              (written.2 ∙ sym at) kept.0;
        },
      ),
    )

pub fields_kept : {T : Type 0} (n : ℕ) (all others : List Declared) (fields last : List (ℕ × Field))
    (between : State) → Holds n (all ++ others)
    → Among (declared_of fields) all → Among (declared_of last) others
    → AllByRecursion (λ entry. IsFieldAfter (length between.bytes) entry.1) fields
    → AllByRecursion (λ entry. IsFieldAfter (length between.bytes) entry.1) last
    → (unit : Unit {0}) (offset : Offset T) (new : State)
    → WritesTable (declared_of (fields ++ last)) (λ place. body_bytes place (fields ++ last)) between
    (Ok unit) new
    → offset.distance ≡ length new.bytes
    → WritesRest fields last [] [] between offset.distance new
fields_kept n all others fields last between rules among last_among stand last_stand unit offset new
    written at =
    λ history before last_before is_history are last_are.
    let same : (before ++ []) ++ (last_before ++ []) ≡ before ++ last_before
    = ap (λ contents. contents ++ (last_before ++ [])) (append-nil before)
    ∙ ap (λ contents. before ++ contents) (append-nil last_before) in
    let kept = contents_kept n (all ++ others) (fields ++ last) (before ++ last_before) between rules
    (subst (λ some. Among some (all ++ others)) (sym (entries_append fields last))
    (among_both (declared_of fields) (declared_of last) all others among last_among))
    (stand_both (length between.bytes) fields last stand last_stand)
    unit offset new written at history
    (history, is_history, extends_itself history, contents_both history before last_before fields last are last_are) in (
      kept.0,
      kept.1,
      kept.2,
      (
        kept.3.0,
        subst (λ contents. TableIsKept kept.0 contents offset.distance) (sym same) kept.3.1,
      ),
    )
