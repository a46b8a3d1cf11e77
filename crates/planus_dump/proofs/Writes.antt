-- Lines that are written as they come.
use Rattle.std.proofs.Common.{◌≡◌, ◌≢◌, ℕ, List, [], ◌∷◌, ◌++◌, refl, sym, ap, ◌∙◌, subst, Option, Result, Ok, Err, Bool, true, false, append_assoc, append-nil}
use Rattle.std.specs.Prelude.{◌||◌}
use Rattle.std.specs.List.{list_any}
use Rattle.std.specs.Result.{IsErr}
use Rattle.std.specs.Io.KnownBytes.{Appends}
use Rattle.std.proofs.KnownBytes.{Appends-nil, Appends-trans}
use Rattle.std.proofs.lemmas.Grind.{flat_map-append}
use Rattle.std.proofs.lemmas.List.Folds.{list_any-append}
use Rattle.planus_dump.specs.Dumped.{Shows, AreShown}
use Rattle.planus_dump.specs.Events.{Event, deep}
use Rattle.planus_dump.specs.Faults.{is_fault}
use Rattle.planus_dump.specs.Views.{lines_text}
use Rattle.planus_dump.specs.declared.line_writer.LineWriter.{LineWriter}
use Rattle.planus_dump.specs.inner.Taking.{Puts}
use Rattle.planus_dump.proofs.Feeds.{some_line, some_line_shows}
use Rattle.planus_dump.specs.inner.Writes.{WritesOn, BeginsOn, Pushes, Writes, WritesPart}

pub shown-append : (es fs : List Event) (ls ms : List (List ℕ)) → AreShown es ls → AreShown fs ms → AreShown (es ++ fs) (ls ++ ms)
shown-append [] fs [] ms first second = second
shown-append [] fs (l ∷ ls) ms first second = absurd first
shown-append (e ∷ es) fs [] ms first second = absurd first
shown-append (e ∷ es) fs (l ∷ ls) ms first second = (first.0, shown-append es fs ls ms first.1 second)

one_more : (lines : List (List ℕ)) (text : List ℕ) → lines_text (lines ++ text ∷ []) ≡ lines_text lines ++ (text ++ 10 ∷ [])
one_more lines text = flat_map-append (λ line. line ++ 10 ∷ []) lines (text ∷ []) ∙ ap (λ l. lines_text lines ++ l) (append-nil (text ++ 10 ∷ []))

or-false : (b : Bool) → (b || false) ≡ b
or-false true = refl
or-false false = refl

or-assoc : (a b c : Bool) → ((a || b) || c) ≡ (a || (b || c))
or-assoc true b c = refl
or-assoc false b c = refl

moved : (start a rest b end first second : List ℕ) → start ++ a ≡ first ++ rest → rest ++ b ≡ second ++ end → start ++ (a ++ b) ≡ (first ++ second) ++ end
moved start a rest b end first second one two =
    sym (append_assoc start a b) ∙ ap (λ l. l ++ b) one ∙ append_assoc first rest b ∙ ap (λ l. first ++ l) two ∙ sym (append_assoc first second end)

module _ {W : Type 0} (contents : W → Option (List ℕ)) where
  pub on_then : (o m n : LineWriter W) (a b : List ℕ) → WritesOn contents o a m → WritesOn contents m b n → WritesOn contents o (a ++ b) n
  on_then o m n a b first second =
      let (one, is, added) = first.leaves in let (two, also, more) = second.leaves in
      record {
        same = second.same ∙ first.same;
        leaves = (one ++ two, moved o.block.items a m.block.items b n.block.items one two is also, Appends-trans _ _ _ one two added more);
      }

  pub on_broken : (o m n : LineWriter W) (a b : List ℕ) → WritesOn contents o a m → BeginsOn contents m b n → BeginsOn contents o (a ++ b) n
  on_broken o m n a b first second =
      let (one, is, added) = first.leaves in let (two, rest, also, more) = second.begun in
      record {
        same = second.same ∙ first.same;
        begun = (one ++ two, rest, moved o.block.items a m.block.items b rest one two is also, Appends-trans _ _ _ one two added more);
      }

  pub on_begun : (o m : LineWriter W) (a : List ℕ) → WritesOn contents o a m → BeginsOn contents o a m
  on_begun o m a first =
      let (one, is, added) = first.leaves in
      record { same = first.same; begun = (one, m.block.items, is, added) }

  pub begins_more : (o n : LineWriter W) (a b : List ℕ) → BeginsOn contents o a n → BeginsOn contents o (a ++ b) n
  begins_more o n a b first =
      let (one, rest, is, added) = first.begun in
      record {
        same = first.same;
        begun = (one, rest ++ b, sym (append_assoc o.block.items a b) ∙ ap (λ l. l ++ b) is ∙ append_assoc one rest b, added);
      }

  pub pushes_then : {U E : Type 0} (o m n : LineWriter W) (a b : List ℕ) (r : Result U E) → WritesOn contents o a m × (m.has_fault ≡ o.has_fault) → Pushes contents m b r n → Pushes contents o (a ++ b) r n
  pushes_then o m n a b (Ok u) first second = (on_then o m n a b first.0 second.0, second.1 ∙ first.1)
  pushes_then o m n a b (Err error) first second = on_broken o m n a b first.0 second

  pub pushes_broken : {U E : Type 0} (o m : LineWriter W) (a b : List ℕ) (r : Result U E) → BeginsOn contents o a m → IsErr r → Pushes contents o (a ++ b) r m
  pushes_broken o m a b (Ok u) first is = cc
  pushes_broken o m a b (Err error) first is = begins_more o m a b first

  pub writes_one : (start old new : LineWriter W) (es : List Event) (e : Event) (text : List ℕ) → Writes contents start es old → Shows e text → WritesOn contents old (text ++ 10 ∷ []) new
      → new.has_fault ≡ (old.has_fault || is_fault e) → Writes contents start (es ++ e ∷ []) new
  writes_one start old new es e text before shows on fault = record {
    lines = before.lines ++ text ∷ [];
    shown = shown-append es (e ∷ []) before.lines (text ∷ []) before.shown (shows, tt);
    written = subst (λ bytes. WritesOn contents start bytes new) (sym (one_more before.lines text)) (on_then start old new (lines_text before.lines) (text ++ 10 ∷ []) before.written on);
    fault = fault ∙ ap (λ b. b || is_fault e) before.fault ∙ or-assoc start.has_fault (list_any is_fault es) (is_fault e)
        ∙ ap (λ b. start.has_fault || b) (ap (λ b. list_any is_fault es || b) (sym (or-false (is_fault e))) ∙ sym (list_any-append is_fault es (e ∷ [])));
  }

  pub part_one : (start old new : LineWriter W) (es : List Event) (e : Event) (text : List ℕ) → Writes contents start es old → Shows e text → BeginsOn contents old (text ++ 10 ∷ []) new
      → WritesPart contents start (es ++ e ∷ []) new
  part_one start old new es e text before shows on = record {
    lines = before.lines ++ text ∷ [];
    shown = shown-append es (e ∷ []) before.lines (text ∷ []) before.shown (shows, tt);
    begun = subst (λ bytes. BeginsOn contents start bytes new) (sym (one_more before.lines text)) (on_broken start old new (lines_text before.lines) (text ++ 10 ∷ []) before.written on);
  }

  pub begins_none : (o m : LineWriter W) (bytes : List ℕ) → m.writer ≡ o.writer → BeginsOn contents o bytes m
  begins_none o m bytes same = record {
    same = ap (λ w. w.ghost_name) same;
    begun = ([], o.block.items ++ bytes, refl, subst (λ w. Appends (contents o.writer.now) (contents w.now) []) (sym same) (Appends-nil (contents o.writer.now)));
  }

  pub put_broken : {U E : Type 0} (old new : LineWriter W) (e : Event) (text : List ℕ) (r : Result U E) → Shows e text → BeginsOn contents old (text ++ 10 ∷ []) new → IsErr r
      → Puts (Writes contents) (WritesPart contents) old e r new
  put_broken old new e text (Ok u) shows on is = cc
  put_broken old new e text (Err error) shows on is = λ start es before. part_one start old new es e text before shows on

  pub put_refused : {U E : Type 0} (old : LineWriter W) (e : Event) (r : Result U E) → e ≢ deep → IsErr r → Puts (Writes contents) (WritesPart contents) old e r old
  put_refused old e r h is = put_broken old old e (some_line e) r (some_line_shows e h) (begins_none old old (some_line e ++ 10 ∷ []) refl) is

  pub put_done : {U : Type 0} (E : Type 0) (old mid new : LineWriter W) (e : Event) (text : List ℕ) (u : U) → Shows e text → WritesOn contents old (text ++ 10 ∷ []) mid × (mid.has_fault ≡ old.has_fault)
      → new ≡ record mid { has_fault = mid.has_fault || is_fault e } → Puts {E = E} (Writes contents) (WritesPart contents) old e (Ok u) new
  put_done E old mid new e text u shows on is = λ start es before.
      writes_one start old new es e text before shows
      (subst (λ w. WritesOn contents old (text ++ 10 ∷ []) w) (sym is) (record { same = on.0.same; leaves = on.0.leaves }))
      (ap (λ (w : LineWriter W). w.has_fault) is ∙ ap (λ b. b || is_fault e) on.1)
