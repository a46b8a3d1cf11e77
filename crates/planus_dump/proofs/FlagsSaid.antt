-- A dump prints the flags that a number has.
use Rattle.std.proofs.Common.{◌≡◌, ℕ, ◌/◌, ◌%◌, List, [], ◌∷◌, refl, ap, ◌∙◌, String, Bool, true, false, ◌==◌, Result, Ok, Err, inl, inr}
use Rattle.std.specs.Prelude.{not, ◌&&◌, if◌then◌else◌}
use Rattle.std.specs.String.{string_bytes}
use Rattle.std.specs.declared.alloc.Global.{Global}
use Rattle.std.proofs.lemmas.Bool.{eqb-true, eqb-false}
use Rattle.planus_read.specs.Reading.{number}
use Rattle.planus_dump.specs.declared.values.Leaf.TheVariants.{Number as LeafNumber}
use Rattle.planus_dump.specs.Answers.{leaf_at}
use Rattle.planus_dump.specs.AsRead.{HasFlag, AreFlags, FlagsAreSaid}
use Rattle.planus_dump.specs.Events.{enum_at, has_value, named, names_in, number_width}
use Rattle.planus_dump.specs.declared.schemas.EnumSchema.{EnumSchema}

has_flag : (n v : ℕ) → has_value true n v ≡ true → HasFlag n v
has_flag n v e = by_two (v == 0) (n / v % 2 == 1) refl refl e
  where
    by_two : (zero odd : Bool) → (v == 0) ≡ zero → (n / v % 2 == 1) ≡ odd → (not zero && odd) ≡ true → HasFlag n v
    by_two true odd is also e = cc
    by_two false true is also e = (eqb-false v 0 is, eqb-true (n / v % 2) 1 also)
    by_two false false is also e = cc

no_flag : (n v : ℕ) → has_value true n v ≡ false → HasFlag n v → ⊥
no_flag n v e (some, odd) = by_two (v == 0) (n / v % 2 == 1) refl refl e
  where
    by_two : (zero odd : Bool) → (v == 0) ≡ zero → (n / v % 2 == 1) ≡ odd → (not zero && odd) ≡ false → ⊥
    by_two true b is also e = some (eqb-true v 0 is)
    by_two false true is also e = cc
    by_two false false is also e = eqb-false (n / v % 2) 1 also odd

flag_first : (n : ℕ) (value : ℕ × String Global) (values : List (ℕ × String Global)) (names : List (List ℕ)) (b : Bool) → has_value true n value.0 ≡ b → AreFlags n values names
    → AreFlags n (value ∷ values) (if b then string_bytes value.1 ∷ names else names)
flag_first n value values names true e more = inl (has_flag n value.0 e, (names, refl, more))
flag_first n value values names false e more = inr (no_flag n value.0 e, more)

are_flags : (n : ℕ) (values : List (ℕ × String Global)) → AreFlags n values (names_in true n values)
are_flags n [] = refl
are_flags n (value ∷ values) = flag_first n value values (names_in true n values) (has_value true n value.0) refl (are_flags n values)

enum_is : (shape : EnumSchema) (S : List ℕ) (f : ℕ) (a : Result (List ℕ) (List ℕ)) → shape.flags ≡ true → leaf_at (LeafNumber shape.number) S f ≡ a
    → enum_at shape S f ≡ named true a (names_in true (number S f (number_width shape.number)) shape.values.items)
enum_is shape S f a flags leaf =
    ap (λ flags. named flags (leaf_at (LeafNumber shape.number) S f) (names_in flags (number S f (number_width shape.number)) shape.values.items)) flags
    ∙ ap (λ r. named true r (names_in true (number S f (number_width shape.number)) shape.values.items)) leaf

pub flags_are_said : (S : List ℕ) (f : ℕ) → FlagsAreSaid S f
flags_are_said S f = record {
  value = λ shape text flags leaf.
      let n = number S f (number_width shape.number) in
      (names_in true n shape.values.items, enum_is shape S f (Ok text) flags leaf, are_flags n shape.values.items);
  fault = λ shape fault flags leaf. enum_is shape S f (Err fault) flags leaf;
}
