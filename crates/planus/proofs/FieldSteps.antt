-- One field is prepared, and then the others after it.
use Rattle.std.proofs.Common.{◌≡◌, ℕ, List, [], ◌∷◌, ◌++◌, refl, sym, subst, ap, ◌∙◌, Option, Some, None, Result, Ok, Err, inl, inr, append_assoc}
use Rattle.std.specs.Prelude.{IfOk}
use Rattle.std.specs.Option.{option_map}
use Rattle.std.proofs.lemmas.List.{append-nil}
use Rattle.planus_read.specs.Values.{Field}
use Rattle.planus_write.specs.lemmas.Laws.{extends_on}
use Rattle.planus_write.specs.History.{History}
use Rattle.planus_write.specs.Placing.{Outcome, then_does}
use Rattle.planus_write.specs.Preparing.{Answers}
use Rattle.planus_write.specs.State.{State, IsHistoryOf}
use Rattle.planus_write.specs.declared.errors.BuildError.{BuildError}
use Rattle.planus_write.specs.declared.offset.Offset.{Offset}
use Rattle.planus_write.specs.lemmas.Staying.{kept_stays}
use Rattle.planus_write.specs.Contents.{Content, Comes}
use Rattle.planus.specs.Contents.{FieldsAre, there_of, TableIsKept, WritesRest}
use Rattle.planus.specs.lemmas.ContentLaws.{fields_stay, contents_both}
use Rattle.planus.specs.Preparing.{WritesFields, FieldsInTurn, PreparesAfter, Turn, take_turns, next_turn, AreTaken, OneFails}
use Rattle.planus.specs.TableFields.{all_of, field_in}

pub if_ok : {T E : Type 0} {P Q : T → Type 0} (r : Result T E) → ((x : T) → P x → Q x) → IfOk r P
    → IfOk r Q
if_ok (Ok x) more holds = more x holds
if_ok (Err e) more holds = tt

pub goes_on : {A B C : Type 0} (first : Outcome A) (second : A → Outcome B) (last : B → Outcome C)
    (old between : State) (a : A) (answer : Result C BuildError) (new : State)
    → first old (Ok a) between → then_does (second a) last between answer new
    → then_does (then_does first second) last old answer new
goes_on first second last old between a (Ok c) new done rest =
    (rest.0, rest.1, (a, between, done, rest.2), rest.3)
goes_on first second last old between a (Err error) new done (inl refused) =
    inl (inr (a, between, done, refused))
goes_on first second last old between a (Err error) new done (inr rest) =
    inr (rest.0, rest.1, (a, between, done, rest.2), rest.3)

-- one call, and then another
then_comes : {A B : Type 0} (first : Outcome A) (second : A → Outcome B) (old : State) (a : A)
    (between : State) (answer : Result B BuildError) (new : State) → first old (Ok a) between
    → second a between answer new → then_does first second old answer new
then_comes first second old a between (Ok b) new done rest = (a, between, done, rest)
then_comes first second old a between (Err error) new done rest = inr (a, between, done, rest)

-- turns that were taken, and then others
pub taken_then : (turns : List Turn) (others : PreparesAfter) (before : FieldsInTurn) (old between : State)
    (fields : FieldsInTurn) → AreTaken turns old fields between
    → (answer : Result FieldsInTurn BuildError) (new : State)
    → others (before ++ fields) between answer new → take_turns turns others before old answer new
unfolding next_turn
taken_then [] others before old between fields taken answer new rest =
    subst (λ (state : State). others before state answer new) taken.1
    (subst (λ (some : FieldsInTurn). others some between answer new)
    (ap (λ (some : FieldsInTurn). before ++ some) taken.0 ∙ append-nil before) rest)
taken_then (turn ∷ turns) others before old between fields taken answer new rest =
    let one = field_in turn.slot turn.as_field taken.0 in
    let more = taken_then turns others (before ++ one ∷ []) taken.1 between taken.3.0 taken.3.2 answer
    new
    (subst (λ (some : FieldsInTurn). others some between answer new)
    (ap (λ (some : FieldsInTurn). before ++ some) taken.3.1 ∙ sym (append_assoc before (one ∷ []) taken.3.0))
    rest) in
    then_comes turn.outcome
    (λ value. take_turns turns others (before ++ field_in turn.slot turn.as_field value ∷ [])) old
    taken.0 taken.1 answer new taken.2 more

-- turns of which one fails
pub fails_then : (turns : List Turn) (others : PreparesAfter) (before : FieldsInTurn) (old : State)
    (error : BuildError) (new : State) → OneFails turns old error new
    → take_turns turns others before old (Err error) new
unfolding next_turn
fails_then [] others before old error new h = absurd h
fails_then (turn ∷ turns) others before old error new (inl refused) = inl refused
fails_then (turn ∷ turns) others before old error new (inr (value, between, done, later)) =
    inr (
      value,
      between,
      done,
      fails_then turns others (before ++ field_in turn.slot turn.as_field value ∷ []) between error new
          later,
    )

-- what another start comes to, and then the last
pub before_then : {A B : Type 0} (near far : Outcome A) (last : A → Outcome B) (between old : State)
    → ((answer : Result A BuildError) (new : State) → near between answer new → far old answer new)
    → (answer : Result B BuildError) (new : State) → then_does near last between answer new
    → then_does far last old answer new
before_then near far last between old lift (Ok b) new (a, next, done, rest) =
    (a, next, lift (Ok a) next done, rest)
before_then near far last between old lift (Err error) new (inl refused) =
    inl (lift (Err error) new refused)
before_then near far last between old lift (Err error) new (inr (a, next, done, rest)) =
    inr (a, next, lift (Ok a) next done, rest)

pub is_refused : {A B C : Type 0} (first : Outcome A) (second : A → Outcome B) (last : B → Outcome C)
    (old : State) (error : BuildError) (answer : Result C BuildError) (new : State)
    → answer ≡ Err error → first old (Err error) new
    → then_does (then_does first second) last old answer new
is_refused first second last old error answer new same refused =
    subst (λ answer. then_does (then_does first second) last old answer new) (sym same) (inl (inl refused))

pub all_append : (ts ls : List (List (ℕ × Field))) → all_of (ts ++ ls) ≡ all_of ts ++ all_of ls
all_append [] ls = refl
all_append (t ∷ ts) ls =
    ap (λ rest. t ++ rest) (all_append ts ls) ∙ sym (append_assoc t (all_of ts) (all_of ls))

pub one_more : (ts : List (List (ℕ × Field))) (there field : List (ℕ × Field)) → all_of ts ≡ there
    → all_of (ts ++ field ∷ []) ≡ there ++ field
one_more ts there field same =
    all_append ts (field ∷ []) ∙ ap (λ last. all_of ts ++ last) (append-nil field)
    ∙ ap (λ all. all ++ field) same

pub all_in_order : (ts ls : List (List (ℕ × Field))) (there last : List (ℕ × Field))
    → all_of ts ≡ there → all_of ls ≡ last → all_of (ts ++ ls) ≡ there ++ last
all_in_order ts ls there last same same_last =
    all_append ts ls ∙ ap (λ fields. fields ++ all_of ls) same ∙ ap (λ fields. there ++ fields) same_last

pub made_of : {A B : Type 0} (slot : ℕ) (of : A → B) (field : B → Field) (field_of : A → Field)
    → ((a : A) → field (of a) ≡ field_of a) → (from : Option A) (made : Option B)
    → made ≡ option_map of from → field_in slot field_of from ≡ field_in slot field made
made_of {A} {B} slot of field field_of is from made same =
    mapped from ∙ ap (λ (made : Option B). field_in slot field made) (sym same)
  where
    mapped : (from : Option A) → field_in slot field_of from ≡ field_in slot field (option_map of from)
    mapped None = refl
    mapped (Some a) = ap (λ (field : Field). (slot, field) ∷ []) (sym (is a))

pub more_kept : (there last fields lasts there_after last_after : List (ℕ × Field))
    (contents last_contents rest rest_last : List (ℕ × Option Content)) (old between new : State)
    (distance : ℕ) → there_after ≡ there ++ fields → last_after ≡ last ++ lasts
    → ((history : History) → IsHistoryOf old history
    → Comes history between (λ after. FieldsAre after (there_of contents) fields × FieldsAre after (there_of last_contents) lasts))
    → WritesRest there_after last_after rest rest_last between distance new
    → WritesRest there last (contents ++ rest) (last_contents ++ rest_last) old distance new
more_kept there last fields lasts there_after last_after contents last_contents rest rest_last old between
    new distance same same_last near far =
    λ history before last_before is_history are last_are.
    let mid = near history is_history in
    let all = subst (λ fields. FieldsAre mid.0 (there_of (before ++ contents)) fields) (sym same)
    (contents_both mid.0 before contents there fields
    (fields_stay history mid.0 (there_of before) there mid.2 are) mid.3.0) in
    let all_last = subst (λ fields. FieldsAre mid.0 (there_of (last_before ++ last_contents)) fields) (sym same_last)
    (contents_both mid.0 last_before last_contents last lasts
    (fields_stay history mid.0 (there_of last_before) last mid.2 last_are) mid.3.1) in
    let written = far mid.0 (before ++ contents) (last_before ++ last_contents) mid.1 all all_last in
    let order : ((before ++ contents) ++ rest) ++ ((last_before ++ last_contents) ++ rest_last)
    ≡ (before ++ (contents ++ rest)) ++ (last_before ++ (last_contents ++ rest_last))
    = ap (λ all. all ++ ((last_before ++ last_contents) ++ rest_last)) (append_assoc before contents rest)
    ∙ ap (λ all. (before ++ (contents ++ rest)) ++ all) (append_assoc last_before last_contents rest_last) in (
      written.0,
      written.1,
      extends_on history mid.0 written.0 mid.2 written.2,
      (
        (λ one named kept. written.3.0 one named (kept_stays history mid.0 one named mid.2 kept)),
        subst (λ all. TableIsKept written.0 all distance) order written.3.1,
      ),
    )

pub answered : {T : Type 0} (all : List (List (ℕ × Field))) (old : State) (answer : Result (Offset T) BuildError)
    (new : State) → WritesFields all old answer new
    → then_does (Answers all) WritesFields old answer new
answered all old (Ok offset) new written = (all, old, (refl, refl), written)
answered all old (Err error) new written = inr (all, old, (refl, refl), written)
