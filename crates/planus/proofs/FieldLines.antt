-- What is read of a table by its field lines.
use Rattle.std.proofs.Common.{◌≡◌, ℕ, List, [], ◌∷◌, ◌++◌, map, refl, sym, subst, ap, ◌∙◌, Bool, true, false, Option, Some, None, Result, Ok, Err, to_z-of_z}
use Rattle.std.specs.Prelude.{not, ◌==◌, if◌then◌else◌, ⊤, IfOk, IsOkAnd}
use Rattle.std.specs.Ordering.{int_eq}
use Rattle.std.proofs.lemmas.Bool.{and_parts, eqb-true, eqb-false, eq-eqb, ne_eqb, not-true}
use Rattle.std.proofs.lemmas.Bool.Decides.{Decides-int_eq}
use Rattle.planus_read.specs.declared.table_reader.Table.{Table}
use Rattle.planus_write.specs.Contents.{Content, written, written_union}
use Rattle.planus_write.specs.declared.offset.Offset.{Offset}
use Rattle.planus_write.specs.History.{History}
use Rattle.planus_write.specs.State.{State, IsHistoryOf}
use Rattle.planus_read.specs.declared.located.Error.{Error}
use Rattle.planus.specs.Contents.{WritesContents}
use Rattle.planus_read.specs.Plain.{Shape}
use Rattle.planus_fields.specs.Contents.{unless}
use Rattle.planus.specs.Holds.{as_signed, holds_plain}
use Rattle.planus.specs.ReadPlain.{IsPlainFieldOr}
use Rattle.planus.specs.ReadBack.{SlotHolds, TableHolds, content_at, is_other, are_apart}
use Rattle.planus.specs.FieldLines.{FieldLine, holds_first, holds_last, all_first, all_last}
use Rattle.planus.specs.FieldLines.{contents_of, Returns, ReturnsGiven, AllReturnGiven}
use Rattle.planus.specs.FieldLines.{UnionOfIsRead, UnionsAreRead}
use Rattle.planus.specs.KeptValues.{ValuesStandIn}
use Rattle.planus.specs.FieldLines.{KeptTablesStandIn, RootIsRead, LinesReadBack}
use Rattle.planus.specs.FieldLines.FieldLine.{optional, required, plain_if, plain_or, number_or, signed_or, union, union_required, unions, unions_required}

-- each entry is what a function has for its slot
abbrev AllAgree : (ℕ → Option Content) → List (ℕ × Option Content) → Type 0
AllAgree at [] = ⊤
AllAgree at (one ∷ others) = (at one.0 ≡ one.1) × AllAgree at others

further : (one : ℕ × Option Content) (at : ℕ → Option Content) (others : List (ℕ × Option Content))
    → is_other one.0 others ≡ true → AllAgree at others
    → AllAgree (λ slot. if one.0 == slot then one.1 else at slot) others
further one at [] other agree = tt
further one at (next ∷ others) other agree =
    let parts = and_parts (not (next.0 == one.0)) (is_other one.0 others) other in
    let differs = ne_eqb one.0 next.0
    (λ same. eqb-false next.0 one.0 (not-true (next.0 == one.0) parts.0) (sym same)) in (
      ap (λ (b : Bool). if b then one.1 else at next.0) differs ∙ agree.0,
      further one at others parts.1 agree.1,
    )

agree : (contents : List (ℕ × Option Content)) → are_apart contents ≡ true
    → AllAgree (content_at contents) contents
agree [] apart = tt
agree (one ∷ others) apart =
    let parts = and_parts (is_other one.0 others) (are_apart others) apart in (
      ap (λ (b : Bool). if b then one.1 else content_at others one.0) (eq-eqb one.0 one.0 refl),
      further one (content_at others) others parts.0 (agree others parts.1),
    )

module _ (B : List ℕ) (table : Table) where
  -- each slot of the table holds its entry
  abbrev AllHold : List (ℕ × Option Content) → Type 0
  AllHold [] = ⊤
  AllHold (one ∷ others) = SlotHolds B table one.0 one.1 × AllHold others

  all_hold : (at : ℕ → Option Content) (contents : List (ℕ × Option Content))
      → ((slot : ℕ) → SlotHolds B table slot (at slot)) → AllAgree at contents → AllHold contents
  all_hold at [] holds agree = tt
  all_hold at (one ∷ others) holds agree = (
    subst (λ (content : Option Content). SlotHolds B table one.0 content) agree.0 (holds one.0),
    all_hold at others holds agree.1,
  )

  first_hold : (xs ys : List (ℕ × Option Content)) → AllHold (xs ++ ys) → AllHold xs
  first_hold [] ys hold = tt
  first_hold (x ∷ xs) ys hold = (hold.0, first_hold xs ys hold.1)

  last_hold : (xs ys : List (ℕ × Option Content)) → AllHold (xs ++ ys) → AllHold ys
  last_hold [] ys hold = hold
  last_hold (x ∷ xs) ys hold = last_hold xs ys hold.1

  -- a value is read back, or its default where it was left out
  or_back : {T : Type 0} {size alignment : ℕ} (shape : Shape T size alignment) (slot : ℕ)
      (default given : T) (left_out : Bool)
      → SlotHolds B table slot (unless left_out (holds_plain shape given)) → shape.fits given
      → Returns (IsPlainFieldOr shape default table slot)
      (λ r. r ≡ Ok (if left_out then default else given))
  or_back shape slot default given true holds fits = λ type_ method r is. is.left_out B holds
  or_back shape slot default given false holds fits =
      λ type_ method r is. is.read_back B given holds fits

  given_back : (line : FieldLine) → AllHold (holds_first line) → AllHold (holds_last line)
      → ReturnsGiven B table line
  given_back (optional kind slot given) first last =
      λ may type_ method r is. is.read_back_if B given first.0 may
  given_back (required kind slot given) first last =
      λ may type_ method r is. is.read_back B (kind.part given) first.0 may
  given_back (plain_if shape slot given) first last =
      λ fits type_ method r is. is.read_back B given first.0 fits
  given_back (plain_or shape equal slot default given) first last =
      or_back shape slot default given (equal given default) first.0
  given_back (number_or shape slot default given) first last =
      λ fits type_ method r is. is.read_back_unless B given (given == default) first.0
      (λ same. eqb-true given default same) fits
  given_back (signed_or shape width slot default given) first last =
      λ signed fits type_ method r is.
      let same : as_signed width given ≡ given = to_z-of_z signed in
      is.read_back_unless B (as_signed width given) (int_eq (as_signed width given) default) first.0
      (Decides-int_eq (as_signed width given) default).0 (subst shape.fits (sym same) fits)
      ∙ ap Ok same
  given_back (union variants slot given) first last =
      λ stands type_ method r is. is.read_back_if B variants (λ S start tag f r reads. reads) given
      last.0 first.0 stands
  given_back (union_required variants slot given) first last =
      λ stands type_ method r is. is.read_back B variants (λ S start tag f r reads. reads) given.tag
      (written given.offset.distance) last.0 first.0 stands
  given_back (unions T slot given) first last =
      λ type_ method r is. is.read_back_any B (map written_union given.now) first.0 first.1.0
  given_back (unions_required T slot given) first last =
      λ type_ method r is. is.read_back B (map written_union given.now) first.0 first.1.0

  all_given_back : (lines : List FieldLine) → AllHold (all_first lines) → AllHold (all_last lines)
      → AllReturnGiven B table lines
  all_given_back [] first last = tt
  all_given_back (line ∷ lines) first last = (
    given_back line (first_hold (holds_first line) (all_first lines) first)
        (first_hold (holds_last line) (all_last lines) last),
    all_given_back lines (last_hold (holds_first line) (all_first lines) first)
        (last_hold (holds_last line) (all_last lines) last),
  )

  module _ (builder : State) (keeps_values : ValuesStandIn B builder) where
    union_is_read : (line : FieldLine) → AllHold (holds_first line) → AllHold (holds_last line)
        → UnionOfIsRead builder table line
    union_is_read (union variants slot (Some given)) first last =
        record { bytes = B; keeps_values = keeps_values; tag = last.0; value = first.0 }
    union_is_read (union variants slot None) first last = tt
    union_is_read (union_required variants slot given) first last =
        record { bytes = B; keeps_values = keeps_values; tag = last.0; value = first.0 }
    union_is_read (optional kind slot given) first last = tt
    union_is_read (required kind slot given) first last = tt
    union_is_read (plain_if shape slot given) first last = tt
    union_is_read (plain_or shape equal slot default given) first last = tt
    union_is_read (number_or shape slot default given) first last = tt
    union_is_read (signed_or shape width slot default given) first last = tt
    union_is_read (unions T slot given) first last = tt
    union_is_read (unions_required T slot given) first last = tt

    unions_are_read : (lines : List FieldLine) → AllHold (all_first lines) → AllHold (all_last lines)
        → UnionsAreRead builder table lines
    unions_are_read [] first last = tt
    unions_are_read (line ∷ lines) first last = (
      union_is_read line (first_hold (holds_first line) (all_first lines) first)
          (first_hold (holds_last line) (all_last lines) last),
      unions_are_read lines (last_hold (holds_first line) (all_first lines) first)
          (last_hold (holds_last line) (all_last lines) last),
    )

-- Where the table holds what the lines say, each method returns what was given.
pub reads_back : (builder : State) (lines : List FieldLine) (B : List ℕ) (table : Table)
    → KeptTablesStandIn B builder → ValuesStandIn B builder → TableHolds B (contents_of lines) table
    → are_apart (contents_of lines) ≡ true → LinesReadBack builder lines table
reads_back builder lines B table keeps keeps_values holds apart =
    let hold = all_hold B table (content_at (contents_of lines)) (contents_of lines) holds
    (agree (contents_of lines) apart) in record {
      bytes = B;
      keeps = keeps;
      keeps_values = keeps_values;
      holds = holds;
      returns = all_given_back B table lines (first_hold B table (all_first lines) (all_last lines) hold)
          (last_hold B table (all_first lines) (all_last lines) hold);
      unions = unions_are_read B table builder keeps_values lines
          (first_hold B table (all_first lines) (all_last lines) hold)
          (last_hold B table (all_first lines) (all_last lines) hold);
    }

pub ok_also : {A E : Type 0} (P Q : A → Type 0) (r : Result A E) → ((x : A) → P x → Q x)
    → IsOkAnd r P → IsOkAnd r Q
ok_also P Q (Ok x) also is = also x is
ok_also P Q (Err e) also is = elim is [ ]

-- So they do of a table that was written with these fields, finished and read.
pub written_reads_back
    : {V K E : Type 0} (table_of : V → Table) (before builder : State) (lines : List FieldLine)
    (root : Offset K) (identifier : Option (List ℕ)) (r : Result (Result V Error) E)
    → IfOk r (RootIsRead table_of root identifier builder) → (history : History) × IsHistoryOf before history
    → WritesContents (contents_of lines) before root.distance builder
    → are_apart (contents_of lines) ≡ true
    → IfOk r (λ read. IsOkAnd read (λ view. LinesReadBack before lines (table_of view)))
written_reads_back table_of before builder lines root identifier (Err e) is history writes apart = tt
written_reads_back table_of before builder lines root identifier (Ok read) is history writes apart =
    ok_also _ (λ view. LinesReadBack before lines (table_of view)) read
    (λ view found. reads_back before lines found.0 (table_of view) found.2 found.3 found.4 apart)
    (is before (contents_of lines) history writes apart)
