-- What readers pass to one another.
use Rattle.std.specs.Prelude.{◌≡◌, ℕ, ◌+◌, List, [], ◌∷◌, take, drop}
use Rattle.planus_read.specs.declared.slice_helpers.SliceWithStartOffset.{SliceWithStartOffset}
use Rattle.planus_read.specs.Clauses.{Clause, clause}
use Rattle.planus_read.specs.Slices.{slice_bytes, slice_start}
use Rattle.planus_read.specs.Reading.{Items, ZeroByte}
use Rattle.planus_read.specs.Utf8.{utf8_clause}
use Rattle.planus_read.specs.declared.errors.ErrorKind.TheVariants.{MissingNullTerminator}
use Rattle.std.specs.Str.{IsUtf8}

pub record ShowsItems
    (S : List ℕ) (start : ℕ) (items : Items) (head : SliceWithStartOffset × ℕ) : Type 0 where
  pub bytes : slice_bytes head.0 ≡ drop items.position S
  pub begin : slice_start head.0 ≡ start + items.position
  pub counted : head.1 ≡ items.count

-- the first count items, followed by a zero byte
pub record IsTextOf (items : List ℕ) (count : ℕ) (content : List ℕ) : Type 0 where
  pub zero_byte : ZeroByte items 0 count
  pub bytes : content ≡ take count items
  pub is_utf8 : IsUtf8 content

-- the clauses of that string
abbrev pub text_of_clauses : List ℕ → ℕ → List Clause
text_of_clauses items count =
    clause (ZeroByte items 0 count) MissingNullTerminator ∷ utf8_clause (take count items) ∷ []
