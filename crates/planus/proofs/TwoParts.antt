-- Fields that are declared and written in two parts.
use Rattle.std.proofs.Common.{◌≡◌, ℕ, ◌+◌, ◌≤◌, max, List, [], ◌∷◌, ◌++◌, refl, ap, true, arith}
use Rattle.std.specs.Prelude.{not, ◌==◌}
use Rattle.std.specs.List.{AllByRecursion}
use Rattle.std.proofs.lemmas.Bool.{and_from, and_parts}
use Rattle.planus_read.specs.Values.{Field}
use Rattle.planus_write.specs.ObjectWriting.{ObjectBody, wrote}
use Rattle.planus_write.specs.TableWriting.{Writer}
use Rattle.planus_write.specs.Tables.{Declared, total_size, body_size, body_bytes}
use Rattle.planus.specs.TableFields.{IsUnused}
use Rattle.planus.specs.TableRules.{is_apart, has_slots}
use Rattle.planus.proofs.FieldLists.{total_append, size_append}
use Rattle.planus.proofs.RuledTables.{slots_append, unused_parts, others_unused}

-- what declaring entries requires, beside the size of the vtable
pub record MayDeclare (writer : Writer) (n : ℕ) (all : List Declared) : Type 0 where
  pub slots : has_slots n all ≡ true
  pub unused : AllByRecursion (λ one. IsUnused writer one.slot) all
  pub fits : writer.object_size + total_size all ≤ 65535

pub first_declared : (writer : Writer) (n : ℕ) (all others : List Declared)
    → MayDeclare writer n (all ++ others) → MayDeclare writer n all
first_declared writer n all others may =
    let total = total_append all others in
    let fits = may.fits in
    record {
      slots = (slots_append n all others may.slots).first;
      unused = (unused_parts writer all others may.unused).0;
      fits = omega (arith, fits, total);
    }

pub second_declared : (writer between : Writer) (n : ℕ) (all others : List Declared)
    → MayDeclare writer n (all ++ others)
    → ((other : ℕ) → is_apart other all ≡ true → IsUnused writer other → IsUnused between other)
    → between.object_size ≤ writer.object_size + total_size all → MayDeclare between n others
second_declared writer between n all others may stays size =
    let total = total_append all others in
    let fits = may.fits in
    let slots = slots_append n all others may.slots in
    record {
      slots = slots.second;
      unused = others_unused writer between all others slots.apart stays
          (unused_parts writer all others may.unused).1;
      fits = omega (arith, fits, total, size);
    }

pub both_apart : (slot : ℕ) (all others : List Declared) → is_apart slot (all ++ others) ≡ true
    → (is_apart slot all ≡ true) × (is_apart slot others ≡ true)
both_apart slot [] others apart = (refl, apart)
both_apart slot (one ∷ all) others apart =
    let parts = and_parts (not (one.slot == slot)) _ apart in
    let rest = both_apart slot all others parts.1 in
    (and_from (not (one.slot == slot)) _ parts.0 rest.0, rest.1)

pub both_sizes : (old between new : ℕ) (all others : List Declared)
    → between ≤ old + total_size all → new ≤ between + total_size others
    → new ≤ old + total_size (all ++ others)
both_sizes old between new all others first second =
    let total = total_append all others in
    omega (arith, total, first, second)

-- what writing fields requires
pub record MayWrite (body : ObjectBody) (fields : List (ℕ × Field)) (reach : ℕ) : Type 0 where
  pub room : body_size fields ≤ body.remaining
  pub reached : reach + body_size fields ≤ body.place

pub first_written : (body : ObjectBody) (fields others : List (ℕ × Field)) (reach others_reach : ℕ)
    → body_size (fields ++ others) ≤ body.remaining
    → max reach others_reach + body_size (fields ++ others) ≤ body.place
    → MayWrite body fields reach
first_written body fields others reach others_reach room reached =
    let sizes = size_append fields others in
    record { room = omega (arith, sizes, room); reached = omega (arith, sizes, reached) }

pub second_written : (body between : ObjectBody) (fields others : List (ℕ × Field))
    (reach others_reach : ℕ) → body_size (fields ++ others) ≤ body.remaining
    → max reach others_reach + body_size (fields ++ others) ≤ body.place
    → between ≡ wrote (body_size fields) (λ place. body_bytes place fields) body
    → MayWrite between others others_reach
second_written body between fields others reach others_reach room reached first =
    let sizes = size_append fields others in
    let left = ap (λ (body : ObjectBody). body.remaining) first in
    let place = ap (λ (body : ObjectBody). body.place) first in
    record { room = omega (arith, sizes, room, left); reached = omega (arith, sizes, reached, place) }
