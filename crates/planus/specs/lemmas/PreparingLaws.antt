-- Laws for encoded tables and for lists of fields.
use Rattle.std.specs.Prelude.{◌≡◌, ℕ, ◌≤◌, max, List, [], ◌∷◌, ◌++◌, Option, Some, None}
use Rattle.std.specs.List.{AllByRecursion}
use Rattle.std.proofs.Common.{refl, subst, sym, ap, ◌∙◌, arith, inl, inr}
use Rattle.planus_read.specs.Values.{Field}
use Rattle.planus_write.specs.Items.{Item}
use Rattle.planus_read.specs.Aligned.{field_alignment}
use Rattle.planus_write.specs.Tables.{IsFieldAfter, Declared, declared_of, field_size}
use Rattle.planus_fields.specs.Fields.{reach_if}
use Rattle.planus.specs.TableFields.{field_in}
use Rattle.planus.specs.TableRules.{Among}
use Rattle.planus_write.specs.FieldItems.{IsItem}

abbrev entry_at : (slot size alignment : ℕ) → Declared
entry_at slot size alignment = record { slot = slot; size = size; alignment = alignment }

pub among_more : (some all : List Declared) (first : Declared) → Among some all
    → Among some (first ∷ all)
among_more [] all first h = tt
among_more (one ∷ some) all first h = inr h

among_others : (some all others : List Declared) → Among some others → Among some (all ++ others)
among_others some [] others among = among
among_others some (one ∷ all) others among =
    among_more some (all ++ others) one (among_others some all others among)

pub among_both : (some more all others : List Declared) → Among some all → Among more others
    → Among (some ++ more) (all ++ others)
among_both [] more all others first second = among_others more all others second
among_both (one ∷ some) more [] others first second = elim first [ ]
among_both (one ∷ some) more (entry ∷ all) others (inl first) second =
    inl (first.0, among_both some more all others first.1 second)
among_both (one ∷ some) more (entry ∷ all) others (inr first) second =
    inr (among_both (one ∷ some) more all others first second)

pub stand_both : (before : ℕ) (fields others : List (ℕ × Field))
    → AllByRecursion (λ entry. IsFieldAfter before entry.1) fields
    → AllByRecursion (λ entry. IsFieldAfter before entry.1) others
    → AllByRecursion (λ entry. IsFieldAfter before entry.1) (fields ++ others)
stand_both before [] others first second = second
stand_both before (field ∷ fields) others first second =
    (first.0, stand_both before fields others first.1 second)

pub entries_append : (fields others : List (ℕ × Field))
    → declared_of (fields ++ others) ≡ declared_of fields ++ declared_of others
entries_append [] others = refl
entries_append (entry ∷ fields) others =
    ap (λ rest. record {
      slot = entry.0;
      size = field_size entry.1;
      alignment = field_alignment entry.1;
    } ∷ rest) (entries_append fields others)

module _ {A : Type 0} (slot : ℕ) (field : A → Field) (reach : A → ℕ) (encoding : A → Item)
    (size alignment : ℕ)
    (items : (value : A) → IsItem size alignment (encoding value) (reach value) (field value)) where
  pub both_stand : (others : List (ℕ × Field)) (others_reach : ℕ) (value : Option A) (before : ℕ)
      → max others_reach (reach_if reach value) ≤ before
      → (others_reach ≤ before → AllByRecursion (λ entry. IsFieldAfter before entry.1) others)
      → AllByRecursion (λ entry. IsFieldAfter before entry.1) (others ++ field_in slot field value)
  both_stand others others_reach value before reached stand =
      stand_both before others (field_in slot field value) (stand (omega (arith, reached)))
      (one_stands value (omega (arith, reached)))
    where
      one_stands : (value : Option A) → reach_if reach value ≤ before
          → AllByRecursion (λ entry. IsFieldAfter before entry.1) (field_in slot field value)
      one_stands None reached = tt
      one_stands (Some value) reached = ((items value).stands before reached, tt)

  pub both_among : (others : List (ℕ × Field)) (all : List Declared) (value : Option A)
      → Among (declared_of others) all
      → Among (declared_of (others ++ field_in slot field value))
      (all ++ record { slot = slot; size = size; alignment = alignment } ∷ [])
  both_among others all value among =
      subst (λ some. Among some (all ++ entry_at slot size alignment ∷ []))
      (sym (entries_append others (field_in slot field value)))
      (among_both (declared_of others) (declared_of (field_in slot field value)) all
      (entry_at slot size alignment ∷ []) among (one_among value))
    where
      one_among : (value : Option A)
          → Among (declared_of (field_in slot field value)) (entry_at slot size alignment ∷ [])
      one_among None = tt
      one_among (Some value) = inl (
        ap (λ (n : ℕ). entry_at slot n (field_alignment (field value))) (items value).size_is
            ∙ ap (λ (n : ℕ). entry_at slot size n) (items value).alignment_is,
        tt,
      )
