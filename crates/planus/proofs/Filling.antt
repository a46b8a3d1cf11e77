-- The body of a table, field by field.
use Rattle.std.proofs.Common.{◌≡◌, ℕ, ◌+◌, ◌-◌, ◌≤◌, List, [], ◌∷◌, ◌++◌, map, take, drop, refl, sym}
use Rattle.std.proofs.Common.{ap, ◌∙◌, subst, arith, Option, Some, None, append_assoc, append-nil}
use Rattle.std.specs.Option.{option_or, option_map}
use Rattle.std.proofs.lemmas.List.{map-append}
use Rattle.planus_read.specs.Values.{Field}
use Rattle.planus_write.specs.Tables.{field_item, field_size, body_size, body_bytes}
use Rattle.planus_write.specs.Parts.{Named}
use Rattle.planus_write.specs.ObjectWriting.{ObjectBody, wrote}
use Rattle.planus_write.proofs.WrittenBodies.{wrote_both}
use Rattle.planus.specs.Steps.{FieldStep, content_of, bare_field}
use Rattle.planus.specs.declared.replaying.steps.Field as code
use Rattle.planus.specs.Slots.{slot_fault, rising_fault, place_fault, size_fault, alignment_of}
use Rattle.planus.specs.Slots.{greatest_field}
use Rattle.planus.specs.Runs.{Listed, named_at, field_of, with_field, fields_of}
use Rattle.planus.specs.TableChecks.{content_fault, field_fault, fields_fault}
use Rattle.planus.specs.Kinds.{StepKind, a_value, a_union_vector, kind_named, naming_fault}
use Rattle.planus.specs.inner.Names.{name_of, listed_from, written_at, fault_since}
use Rattle.planus.specs.declared.replaying.faults.Why.{Why}
use Rattle.planus.specs.inner.Prepared.{field_reach}
use Rattle.planus.specs.inner.Filling.{listed_since, fields_or_none, fields_in, fields_reach}
use Rattle.planus.specs.declared.replaying.table_body.TableBody.{TableBody}
use Rattle.planus.proofs.FieldFaults.{none_of}
use Rattle.planus.proofs.Found.{around}
use Rattle.planus.proofs.NamedKinds.{GoodAreNamed}
use Rattle.planus.proofs.Lists.{named_value}
use Rattle.planus.proofs.TableFields.{fields_made, fields_are}

pub record Apart (listed : List Listed) (slots : List ℕ) (before : ℕ) (xs : List (ℕ × FieldStep)) (x : ℕ × FieldStep) (all : List (ℕ × Field)) : Type 0 where
  pub front : List (ℕ × Field)
  pub field : Field
  pub back : List (ℕ × Field)
  pub are : fields_of listed slots before xs ≡ Some front
  pub is : field_of listed x.1 ≡ Some field
  pub next : fields_of listed slots before (xs ++ x ∷ []) ≡ Some (front ++ (x.0, field) ∷ [])
  pub whole : all ≡ front ++ (x.0, field) ∷ back

with_made : (slot : ℕ) (fault : Option Why) (field : Option Field) (rest : Option (List (ℕ × Field))) (here : Field) (more : List (ℕ × Field)) → fault ≡ None → field ≡ Some here → rest ≡ Some more
    → with_field slot fault field rest ≡ Some ((slot, here) ∷ more)
with_made slot fault field rest here more none is are = rw (none, is, are) refl

pub taken_apart : (listed : List Listed) (slots : List ℕ) (before : ℕ) (xs : List (ℕ × FieldStep)) (x : ℕ × FieldStep) (rest : List (ℕ × FieldStep)) (all : List (ℕ × Field))
    → fields_of listed slots before (xs ++ x ∷ rest) ≡ Some all → Apart listed slots before xs x all
taken_apart listed slots before [] x rest all e =
    let made = fields_made x.0 (place_fault slots before x) (field_of listed x.1) (fields_of listed (slots ++ x.0 ∷ []) (alignment_of x.1) rest) all e in
    record {
      front = [];
      field = made.1;
      back = made.3;
      are = refl;
      is = made.2;
      next = with_made x.0 (place_fault slots before x) (field_of listed x.1) (Some []) made.1 [] made.0 made.2 refl;
      whole = sym made.5;
    }
taken_apart listed slots before (entry ∷ xs) x rest all e =
    let made = fields_made entry.0 (place_fault slots before entry) (field_of listed entry.1) (fields_of listed (slots ++ entry.0 ∷ []) (alignment_of entry.1) (xs ++ x ∷ rest)) all e in
    let further = taken_apart listed (slots ++ entry.0 ∷ []) (alignment_of entry.1) xs x rest made.3 made.4 in
    record {
      front = (entry.0, made.1) ∷ further.front;
      field = further.field;
      back = further.back;
      are = with_made entry.0 (place_fault slots before entry) (field_of listed entry.1) (fields_of listed (slots ++ entry.0 ∷ []) (alignment_of entry.1) xs) made.1 further.front made.0 made.2 further.are;
      is = further.is;
      next = with_made entry.0 (place_fault slots before entry) (field_of listed entry.1) (fields_of listed (slots ++ entry.0 ∷ []) (alignment_of entry.1) (xs ++ x ∷ [])) made.1
          (further.front ++ (x.0, further.field) ∷ []) made.0 made.2 further.next;
      whole = sym made.5 ∙ ap (λ (more : List (ℕ × Field)). (entry.0, made.1) ∷ more) further.whole;
    }

pub size_around : (front : List (ℕ × Field)) (x : ℕ × Field) (back : List (ℕ × Field)) → body_size (front ++ x ∷ back) ≡ body_size front + (field_size x.1 + body_size back)
size_around [] x back = omega arith
size_around (first ∷ front) x back = let rest = size_around front x back in omega (arith, rest)

pub bytes_push : (place : ℕ) (front : List (ℕ × Field)) (x : ℕ × Field) → body_bytes place (front ++ x ∷ []) ≡ body_bytes place front ++ field_item x.1 (place - body_size front)
bytes_push place [] x = append-nil (field_item x.1 place) ∙ ap (field_item x.1) (let all : place ≡ place - 0 = omega arith in all)
bytes_push place (first ∷ front) x =
    let behind : place - field_size first.1 - body_size front ≡ place - (field_size first.1 + body_size front) = omega arith in
    ap (λ bytes. field_item first.1 place ++ bytes) (bytes_push (place - field_size first.1) front x ∙ ap (λ p. body_bytes (place - field_size first.1) front ++ field_item x.1 p) behind)
    ∙ sym (append_assoc (field_item first.1 place) (body_bytes (place - field_size first.1) front) (field_item x.1 (place - (field_size first.1 + body_size front))))

pub reach_inside : (front : List (ℕ × Field)) (x : ℕ × Field) (back : List (ℕ × Field)) → field_reach x.1 ≤ fields_reach (front ++ x ∷ back)
reach_inside [] x back = omega arith
reach_inside (first ∷ front) x back = let rest = reach_inside front x back in omega (arith, rest)

named_good : (first : ℕ) (since : List (Option Named)) → GoodAreNamed (listed_from first since) (fault_since first since)
named_good first since kind step none = by_case (written_at first since step) refl none
  where
    by_kind : (wanted found : StepKind) → naming_fault wanted (Some (Some found)) ≡ None → found ≡ wanted
    by_kind a_value a_value e = refl
    by_kind a_value a_union_vector e = (cc)
    by_kind a_union_vector a_value e = (cc)
    by_kind a_union_vector a_union_vector e = refl

    by_case : (found : Option (Option Named)) → written_at first since step ≡ found → naming_fault kind (option_map (option_map kind_named) found) ≡ None
        → (of : Named) × (named_at (listed_from first since) step ≡ Some of) × (kind_named of ≡ kind)
    by_case None is e = absurd (none_good kind e)
      where
        none_good : (wanted : StepKind) → naming_fault wanted None ≡ None → ⊥
        none_good a_value e = (cc)
        none_good a_union_vector e = (cc)
    by_case (Some None) is e = absurd (finish_good kind e)
      where
        finish_good : (wanted : StepKind) → naming_fault wanted (Some None) ≡ None → ⊥
        finish_good a_value e = (cc)
        finish_good a_union_vector e = (cc)
    by_case (Some (Some name)) is e = (name, named_value first since step name is, by_kind kind (kind_named name) e)

content_apart : (fault : StepKind → ℕ → Option Why) (slots : List ℕ) (before : ℕ) (xs : List (ℕ × FieldStep)) (x : ℕ × FieldStep) (rest : List (ℕ × FieldStep))
    → fields_fault fault slots before (xs ++ x ∷ rest) ≡ None → content_fault fault x.1 ≡ None
content_apart fault slots before [] x rest e =
    let both = none_of (field_fault fault slots before x) (fields_fault fault (slots ++ x.0 ∷ []) (alignment_of x.1) rest) e in
    let slot = none_of (slot_fault slots x.0) (option_or (content_fault fault x.1) (rising_fault before (alignment_of x.1))) both.0 in
    (none_of (content_fault fault x.1) (rising_fault before (alignment_of x.1)) slot.1).0
content_apart fault slots before (entry ∷ xs) x rest e =
    content_apart fault (slots ++ entry.0 ∷ []) (alignment_of entry.1) xs x rest
    (none_of (field_fault fault slots before entry) (fields_fault fault (slots ++ entry.0 ∷ []) (alignment_of entry.1) (xs ++ x ∷ rest)) e).1

pub record Filled (body : TableBody) (index : ℕ) (old new : ObjectBody) : Type 0 where
  pub front : List (ℕ × Field)
  pub are : fields_of (listed_since body) [] greatest_field (map bare_field (take index body.fields.now)) ≡ Some front
  pub written : new ≡ wrote (body_size front) (λ place. body_bytes place front) old

fields_good_in : (body : TableBody) → fields_fault (fault_since body.earlier.first (map name_of body.earlier.offsets.now)) [] greatest_field (map bare_field body.fields.now) ≡ None
fields_good_in body = (none_of (fields_fault (fault_since body.earlier.first (map name_of body.earlier.offsets.now)) [] greatest_field (map bare_field body.fields.now)) (size_fault (map bare_field body.fields.now)) body.good).0

pub fields_are_in : (body : TableBody) → fields_of (listed_since body) [] greatest_field (map bare_field body.fields.now) ≡ Some (fields_in body)
fields_are_in body =
    let made = fields_are (listed_since body) (fault_since body.earlier.first (map name_of body.earlier.offsets.now)) (named_good body.earlier.first (map name_of body.earlier.offsets.now)) [] greatest_field
    (map bare_field body.fields.now) (fields_good_in body) in
    made.1 ∙ ap (λ (all : List (ℕ × Field)). Some all) (sym (ap fields_or_none made.1))

no_fault : (why : Why) → None ≡ Some why → ⊥
no_fault why e = (cc)

module _ (body : TableBody) (i : ℕ) (x : code.Field) (step : take (i + 1) body.fields.now ≡ take i body.fields.now ++ x ∷ []) (old new : ObjectBody) (filled : Filled body i old new) where
  abbrev behind : List (ℕ × FieldStep)
  behind = map bare_field (drop (i + 1) body.fields.now)

  parts : map bare_field (take i body.fields.now) ++ bare_field x ∷ behind ≡ map bare_field body.fields.now
  parts = sym (map-append bare_field (take i body.fields.now) (x ∷ drop (i + 1) body.fields.now)) ∙ ap (map bare_field) (around body.fields.now i x step)

  content_good : content_fault (fault_since body.earlier.first (map name_of body.earlier.offsets.now)) (content_of x.value) ≡ None
  content_good =
      content_apart (fault_since body.earlier.first (map name_of body.earlier.offsets.now)) [] greatest_field (map bare_field (take i body.fields.now)) (bare_field x) behind
      (ap (fields_fault (fault_since body.earlier.first (map name_of body.earlier.offsets.now)) [] greatest_field) parts ∙ fields_good_in body)

  pub not_bad : (why : Why) → content_fault (fault_since body.earlier.first (map name_of body.earlier.offsets.now)) (content_of x.value) ≡ Some why → ⊥
  not_bad why bad = no_fault why (sym content_good ∙ bad)

  apart : Apart (listed_since body) [] greatest_field (map bare_field (take i body.fields.now)) (bare_field x) (fields_in body)
  apart = taken_apart (listed_since body) [] greatest_field (map bare_field (take i body.fields.now)) (bare_field x) behind (fields_in body)
      (ap (fields_of (listed_since body) [] greatest_field) parts ∙ fields_are_in body)

  front_is : apart.front ≡ filled.front
  front_is = let both : Some apart.front ≡ Some filled.front = sym apart.are ∙ filled.are in cc

  module _ (field : Field) (is : field_of (listed_since body) (content_of x.value) ≡ Some field) where
    field_is_it : apart.field ≡ field
    field_is_it = let both : Some apart.field ≡ Some field = sym apart.is ∙ is in cc

    whole : fields_in body ≡ filled.front ++ (x.slot, field) ∷ apart.back
    whole = apart.whole ∙ ap (λ (f : List (ℕ × Field)). f ++ (x.slot, apart.field) ∷ apart.back) front_is ∙ ap (λ (f : Field). filled.front ++ (x.slot, f) ∷ apart.back) field_is_it

    size_is : body_size (fields_in body) ≡ body_size filled.front + (field_size field + body_size apart.back)
    size_is = ap body_size whole ∙ size_around filled.front (x.slot, field) apart.back

    pub room : old.remaining ≡ body_size (fields_in body) → field_size field ≤ new.remaining
    room size =
        let left = ap (λ (b : ObjectBody). b.remaining) filled.written in
        let all = size_is in
        omega (arith, left, all, size)

    pub reach : fields_reach (fields_in body) + body_size (fields_in body) ≤ old.place → field_reach field ≤ new.place
    reach le =
        let far : field_reach field ≤ fields_reach (fields_in body)
        = subst (λ fields. field_reach field ≤ fields_reach fields) (sym whole) (reach_inside filled.front (x.slot, field) apart.back) in
        let place = ap (λ (b : ObjectBody). b.place) filled.written in let all = size_is in omega (arith, le, far, place, all)

    pub filled_on : (after : ObjectBody) → after ≡ wrote (field_size field) (field_item field) new → Filled body (i + 1) old after
    filled_on after one_more =
        let size : body_size filled.front + field_size field ≡ body_size (filled.front ++ (x.slot, field) ∷ []) = (let e = size_around filled.front (x.slot, field) [] in omega (arith, e)) in
        record {
          front = filled.front ++ (x.slot, field) ∷ [];
          are = ap (λ (fields : List code.Field). fields_of (listed_since body) [] greatest_field (map bare_field fields)) step
              ∙ ap (fields_of (listed_since body) [] greatest_field) (map-append bare_field (take i body.fields.now) (x ∷ [])) ∙ apart.next
              ∙ ap (λ (f : List (ℕ × Field)). Some (f ++ (x.slot, apart.field) ∷ [])) front_is ∙ ap (λ (f : Field). Some (filled.front ++ (x.slot, f) ∷ [])) field_is_it;
          written = one_more ∙ ap (wrote (field_size field) (field_item field)) filled.written
              ∙ wrote_both (body_size filled.front) (field_size field) (λ place. body_bytes place filled.front) (field_item field)
              (λ place. body_bytes place (filled.front ++ (x.slot, field) ∷ [])) old (bytes_push old.place filled.front (x.slot, field))
              ∙ ap (λ n. wrote n (λ place. body_bytes place (filled.front ++ (x.slot, field) ∷ [])) old) size;
        }
