-- What is read of the items of a vector of references.
use Rattle.std.proofs.Common.{◌≡◌, ℕ, zero, suc, ◌+◌, List, [], ◌∷◌, length, drop, subst, ap, ◌∙◌}
use Rattle.std.proofs.Common.{Some, Result, Ok, Err, refl}
use Rattle.std.specs.Borrow.{Bor}
use Rattle.std.specs.Prelude.{IsOkAnd, map, slice_get}
use Rattle.std.specs.Str.{IsUtf8}
use Rattle.planus_read.specs.declared.errors.ErrorKind.{ErrorKind}
use Rattle.planus_read.specs.declared.located.Error.{Error}
use Rattle.planus_read.specs.declared.plain.Plain.{Ghosts as PlainGhosts}
use Rattle.planus_read.specs.Bytes.{position_of}
use Rattle.planus_read.specs.Clauses.{Answer, shown}
use Rattle.planus_read.specs.Located.{Located}
use Rattle.planus_read.specs.Slices.{ShowsBytes}
use Rattle.planus_read.specs.Reading.{Leads, text_reading, table_reading}
use Rattle.planus_read.specs.Stands.{Stands, at}
use Rattle.planus_read.specs.Values.{text}
use Rattle.planus_read.proofs.ReadingLaws.{is_shown, lawful_text}
use Rattle.planus_read.proofs.ReadsBack.{what_stands_reads_back}
use Rattle.planus_view.specs.Views.{View}
use Rattle.planus.specs.ReadBack.{AllStand, TableHolds}
use Rattle.planus.specs.ReadVectors.{item_offset, TextItemsReadBack}
use Rattle.planus.specs.ReadVectors.{TableItemsReadBack}
use Rattle.planus.specs.Views.{ShowsView}
use Rattle.planus.proofs.ReadBack.{table_led}

as_many : (B : List ℕ) (texts : List (List ℕ)) (distances : List ℕ)
    → AllStand B (map text texts) distances → length distances ≡ length texts
as_many B [] [] stand = refl
as_many B (one ∷ texts) (distance ∷ distances) stand = ap suc (as_many B texts distances stand.1)
as_many B [] (distance ∷ distances) stand = elim stand [ ]
as_many B (one ∷ texts) [] stand = elim stand [ ]

stands_there : (B : List ℕ) (texts : List (List ℕ)) (distances : List ℕ) (i : ℕ) (bytes : List ℕ)
    → AllStand B (map text texts) distances → slice_get texts i ≡ Some bytes
    → (distance : ℕ) × (slice_get distances i ≡ Some distance)
    × Stands B (at (position_of B distance)) (text bytes)
stands_there B [] distances i bytes stand there = absurd (cc)
stands_there B (one ∷ texts) [] i bytes stand there = elim stand [ ]
stands_there B (one ∷ texts) (distance ∷ distances) zero bytes stand there =
    let same : one ≡ bytes = cc in
    (distance, refl, subst (λ (bytes : List ℕ). Stands B (at (position_of B distance)) (text bytes)) same stand.0)
stands_there B (one ∷ texts) (distance ∷ distances) (suc i) bytes stand there =
    stands_there B texts distances i bytes stand.1 there

text_led : (B bytes : List ℕ) (start f distance : ℕ) → IsUtf8 bytes
    → Stands B (at (position_of B distance)) (text bytes)
    → Leads B (start + f) (position_of B distance) → (r : Result (Bor (List ℕ)) ErrorKind)
    → Answer (shown ShowsBytes (text_reading (drop start B) f)) r
    → IsOkAnd r (λ found. found.now ≡ bytes)
text_led B bytes start f distance utf8 stands leads r h =
    let read = what_stands_reads_back B (at (position_of B distance)) (text bytes) utf8 stands start f
    leads in
    is_shown (text_reading (drop start B) f) ShowsBytes (lawful_text (drop start B) f) bytes read.there
    r h

when_located : {A : Type 0} (answers : Result A ErrorKind → Type 0) (Holds : A → Type 0)
    → ((r : Result A ErrorKind) → answers r → IsOkAnd r Holds)
    → (type_ method : List ℕ) (offset : ℕ) (r : Result A Error)
    → Located answers type_ method offset r → IsOkAnd r Holds
when_located answers Holds each type_ method offset (Ok x) h = each (Ok x) h
when_located answers Holds each type_ method offset (Err e) h = each (Err e.error_kind) h.0

module _ (T : Type 0) {R : Type 0} (kind : PlainGhosts R) where
  pub text_items_read_back : TextItemsReadBack T kind
  text_items_read_back B texts distances vector stand are = record {
    count = ap (λ (view : View). view.count) are.1.view ∙ as_many B texts distances stand;
    item = λ i bytes there utf8 type_ method offset r h.
        let at_it = stands_there B texts distances i bytes stand there in
        when_located
        (Answer (shown ShowsBytes (text_reading (drop (are.0 + 4) B) (item_offset kind i))))
        (λ found. found.now ≡ bytes)
        (text_led B bytes (are.0 + 4) (item_offset kind i) at_it.0 utf8 at_it.2
        (are.1.each i at_it.0 at_it.1).leads)
        type_ method offset r
        (subst
        (λ (view : View). Located
        (Answer (shown ShowsBytes (text_reading view.bytes (item_offset kind i)))) type_ method
        offset r)
        are.1.view h);
  }

  pub table_items_read_back : {K : Type 0} → TableItemsReadBack T kind K
  table_items_read_back {K} B distances vector are = record {
    count = ap (λ (view : View). view.count) are.1.view;
    item = λ i distance contents there stands type_ method offset r h.
        when_located
        (Answer (shown (ShowsView (drop (are.0 + 4) B) (are.0 + 4))
        (table_reading (drop (are.0 + 4) B) (item_offset kind i))))
        (λ view. TableHolds B contents view.table)
        (table_led B {K = K} contents distance stands (are.0 + 4) (item_offset kind i)
        (are.1.each i distance there).leads)
        type_ method offset r
        (subst
        (λ (view : View). Located
        (Answer (shown (ShowsView view.bytes view.start)
        (table_reading view.bytes (item_offset kind i))))
        type_ method offset r)
        are.1.view h);
  }
