-- The items of a vector are written as one part, and their count before them.
use Rattle.std.proofs.Common.{◌≡◌, ℕ, ◌+◌, ◌-◌, ◌*◌, ◌/◌, max, List, [], length, map, refl, sym, ap, ◌∙◌, subst, arith, None}
use Rattle.std.specs.Prelude.{Ok, Err}
use Rattle.std.specs.Int.{byte_len}
use Rattle.std.proofs.lemmas.List.{length-map}
use Rattle.planus_back.specs.Promises.{IsPowerOfTwo}
use Rattle.planus_back.specs.Parts.{Part}
use Rattle.planus_read.specs.Plain.{IsLayout}
use Rattle.planus_write.specs.History.{unshared_entry}
use Rattle.planus_write.specs.Items.{Item, plain_item}
use Rattle.planus_write.specs.Parts.{items_bytes, items_part, count_part, filled_part}
use Rattle.planus_write.specs.Placing.{WritesEntry}
use Rattle.planus_write.specs.Preparing.{Answers, WritesList}
use Rattle.planus_write.specs.State.{State}
use Rattle.planus_write.specs.declared.errors.BuildError.{BuildError}
use Rattle.planus_write.specs.declared.offset.Offset.{Offset}
use Rattle.planus_write.proofs.WrittenLists.{items_power, part_is, part_refused, count_refused, counted_written, list_is}
use Rattle.planus.specs.Runs.{struct_width, items_of}
use Rattle.planus.specs.Replays.{plains_fault}
use Rattle.planus.proofs.Structs.{PlainsFit, plains_fit}
use Rattle.planus.proofs.PlainItems.{whole, items_count}
use Rattle.planus.proofs.WrittenValues.{plains_layout}

module _ (alignment size : ℕ) (content : List ℕ) (good : plains_fault (struct_width alignment) size content ≡ None) where
  fit : PlainsFit alignment size content
  fit = plains_fit alignment size content good

  pub layout : IsLayout size alignment
  layout = plains_layout alignment size content good

  abbrev items : List Item
  items = map plain_item (items_of size content)

  abbrev part : Part
  part = items_part size alignment items

  pub count_is : length content / size ≡ length items
  count_is = sym (items_count (byte_len fit.known) size content fit.fits) ∙ sym (length-map (items_of size content) plain_item)

  long : length content ≡ length (items_of size content) * size
  long = whole (byte_len fit.known) size content fit.fits ∙ ap (λ n. n * size) (sym (items_count (byte_len fit.known) size content fit.fits))

  module _ (greatest : ℕ) (is_greatest : greatest ≡ max alignment 4) where
    pub mask_and_one : greatest - 1 + 1 ≡ max alignment 4
    mask_and_one = omega (arith, is_greatest)

    pub mask_power : IsPowerOfTwo (greatest - 1 + 1)
    mask_power = subst IsPowerOfTwo (sym mask_and_one) (items_power size alignment layout)

    same_part : filled_part (length content) (greatest - 1 + 1) (λ place n. items_bytes size place items) ≡ part
    same_part = part_is plain_item (λ item. 0) (items_of size content) size size alignment refl (length content) (greatest - 1 + 1) long mask_and_one

    pub items_refused : (T : Type 0) (old : State) (error : BuildError) (new : State)
        → WritesEntry (unshared_entry (filled_part (length content) (greatest - 1 + 1) (λ place n. items_bytes size place items))) [] old (Err error) new
        → WritesList {T = T} Answers plain_item size alignment (items_of size content) old (Err error) new
    items_refused T old error new refused =
        list_is {T = T} Answers plain_item size alignment (items_of size content) (items_of size content) old old (refl, refl) (Err error) new
        (part_refused part (length items) old T error new (subst (λ (p : Part). WritesEntry (unshared_entry p) [] old (Err error) new) same_part refused))

    module _ (old between : State) (first : ℕ)
        (put : WritesEntry (unshared_entry (filled_part (length content) (greatest - 1 + 1) (λ place n. items_bytes size place items))) [] old (Ok first) between) where
      put_items : WritesEntry (unshared_entry part) [] old (Ok first) between
      put_items = subst (λ (p : Part). WritesEntry (unshared_entry p) [] old (Ok first) between) same_part put

      pub count_not_put : (T : Type 0) (error : BuildError) (new : State) → WritesEntry (unshared_entry (count_part (length content / size))) [] between (Err error) new
          → WritesList {T = T} Answers plain_item size alignment (items_of size content) old (Err error) new
      count_not_put T error new refused =
          list_is {T = T} Answers plain_item size alignment (items_of size content) (items_of size content) old old (refl, refl) (Err error) new
          (count_refused part (length items) old first between put_items T error new
          (subst (λ n. WritesEntry (unshared_entry (count_part n)) [] between (Err error) new) count_is refused))

      pub both_put : {T : Type 0} (offset : Offset T) (new : State) (distance : ℕ) → offset.distance ≡ distance
          → WritesEntry (unshared_entry (count_part (length content / size))) [] between (Ok distance) new
          → WritesList Answers plain_item size alignment (items_of size content) old (Ok offset) new
      both_put offset new distance at put_count =
          list_is Answers plain_item size alignment (items_of size content) (items_of size content) old old (refl, refl) (Ok offset) new
          (counted_written part (length items) old first between put_items offset new
          (subst (λ n. WritesEntry (unshared_entry (count_part n)) [] between (Ok offset.distance) new) count_is
          (subst (λ d. WritesEntry (unshared_entry (count_part (length content / size))) [] between (Ok d) new) (sym at) put_count)))
