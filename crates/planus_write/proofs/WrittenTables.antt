-- A table is written.
use Rattle.std.proofs.Common.{◌≡◌, ℕ, ◌+◌, ◌-◌, List, [], ◌∷◌, length, refl, ap, ◌∙◌, subst, arith, inl, inr}
use Rattle.std.specs.Prelude.{Ok, Err}
use Rattle.planus_back.specs.Parts.{Part}
use Rattle.planus_write.specs.Items.{Item}
use Rattle.planus_write.specs.History.{unshared_entry}
use Rattle.planus_write.specs.Parts.{filled_part}
use Rattle.planus_write.specs.Tables.{Declared, total_size, slots_used, vtable_of, vtable_entry, object_part, word_part, word_entry}
use Rattle.planus_write.specs.TableWriting.{Writer, WasTold, WritesTable}
use Rattle.planus_write.specs.State.{State}
use Rattle.planus_write.specs.Placing.{PlacesEntry, Refuses}
use Rattle.planus_write.specs.declared.errors.BuildError.{BuildError}
use Rattle.planus_write.specs.declared.errors.BuildError.TheVariants.{OutOfMemory, TooLarge}
use Rattle.planus_write.proofs.WrittenLists.{put_behind, refused_behind}

word_put : (vtable body : ℕ) (old : State) (distance : ℕ) (new : State) → PlacesEntry (unshared_entry (word_part vtable)) [] old distance new → PlacesEntry word_entry (vtable ∷ body ∷ []) old distance new
word_put vtable body old distance new h = record { grows = h.grows; reached = h.reached; fits = h.fits; puts = h.puts; room = h.room; settings = h.settings }

word_not_put : (vtable body : ℕ) (old : State) (error : BuildError) (new : State) → Refuses (unshared_entry (word_part vtable)) [] old error new → Refuses word_entry (vtable ∷ body ∷ []) old error new
word_not_put vtable body old TooLarge new h = record { unchanged = h.unchanged; cause = λ history is_history. (let c = h.cause history is_history in record { is_new = c.is_new; too_large = c.too_large }) }
word_not_put vtable body old OutOfMemory new h = record { unchanged = h.unchanged; cause = λ history is_history. (let c = h.cause history is_history in record { is_new = c.is_new; lacks = c.lacks }) }

body_is : (writer : Writer) (declared : List Declared) (body : Item) → WasTold writer declared → filled_part (writer.object_size - 4) (writer.mask + 1) (λ place n. body place) ≡ object_part declared body
body_is writer declared body told =
    let size : writer.object_size - 4 ≡ total_size declared = (let o = told.object_size in omega (arith, o)) in
    ap (λ n. filled_part n (writer.mask + 1) (λ place n. body place)) size ∙ ap (λ a. filled_part (total_size declared) a (λ place n. body place)) told.alignment

module _ (writer : Writer) (vtable : List ℕ) (body : Item) (declared : List Declared) (told : WasTold writer declared) (vtable_is : vtable ≡ vtable_of (slots_used declared) declared) (old : State) where
  pub vtable_refused : (error : BuildError) (new : State) → Refuses (vtable_entry vtable) [] old error new → WritesTable declared body old (Err error) new
  vtable_refused error new refused = inl (subst (λ bytes. Refuses (vtable_entry bytes) [] old error new) vtable_is refused)

  module _ (place : ℕ) (mid : State) (put : PlacesEntry (vtable_entry vtable) [] old place mid) where
    first : PlacesEntry (vtable_entry (vtable_of (slots_used declared) declared)) [] old place mid
    first = subst (λ bytes. PlacesEntry (vtable_entry bytes) [] old place mid) vtable_is put

    pub body_refused : (error : BuildError) (new : State) → Refuses (unshared_entry (filled_part (writer.object_size - 4) (writer.mask + 1) (λ place n. body place))) [] mid error new → WritesTable declared body old (Err error) new
    body_refused error new refused =
        inr (
          place,
          mid,
          first,
          inl (refused_behind (object_part declared body) [] (place ∷ []) mid error new
              (subst (λ (part : Part). Refuses (unshared_entry part) [] mid error new) (body_is writer declared body told) refused)),
        )

    module _ (at : ℕ) (between : State) (body_put : PlacesEntry (unshared_entry (filled_part (writer.object_size - 4) (writer.mask + 1) (λ place n. body place))) [] mid at between) where
      second : PlacesEntry (unshared_entry (object_part declared body)) (place ∷ []) mid at between
      second = put_behind (object_part declared body) [] (place ∷ []) mid at between (subst (λ (part : Part). PlacesEntry (unshared_entry part) [] mid at between) (body_is writer declared body told) body_put)

      pub word_refused : (error : BuildError) (new : State) → Refuses (unshared_entry (word_part place)) [] between error new → WritesTable declared body old (Err error) new
      word_refused error new refused = inr (place, mid, first, inr (at, between, second, inl (word_not_put place at between error new refused)))

      pub table_written : (word : ℕ) (new : State) → PlacesEntry (unshared_entry (word_part place)) [] between word new → word ≡ length new.bytes → WritesTable declared body old (Ok tt) new
      table_written word new last whole =
          (place ∷ at ∷ word ∷ [], (place, mid, first, (at, between, second, (word, new, word_put place at between word new last, (refl, refl)))), whole)
