-- Size-prefixed buffers, one after another.
use Rattle.std.specs.Borrow.{Bor}
use Rattle.std.specs.Prelude.{◌≡◌, ℕ, ◌+◌, ◌≤◌, ◌<◌, List, [], ◌∷◌, ◌++◌, length, take, drop, Some}
use Rattle.std.specs.Prelude.{Result, Err}
use Rattle.std.specs.List.{AllByRecursion, concat}
use Rattle.std.specs.Int.{w32}
use Rattle.planus_read.specs.declared.errors.ErrorKind.{ErrorKind}
use Rattle.planus_read.specs.declared.errors.ErrorKind.TheVariants.{InvalidLength}
use Rattle.planus_read.specs.declared.slice_helpers.SliceWithStartOffset.{SliceWithStartOffset}
use Rattle.planus_read.specs.Bytes.{Num}
use Rattle.planus_read.specs.Clauses.{Clause, clause, Reading, Answer}
use Rattle.planus_read.specs.Slices.{slice_bytes, slice_start}
use Rattle.planus_read.specs.Reading.{number, number_clause}
use Rattle.planus_read.specs.ReadingLaws.{IsAnswered}

pub record Prefixed : Type 0 where
  pub content : List ℕ
  pub rest : List ℕ

-- The format: a size-prefixed buffer begins with an unsigned number of 4 bytes, the number of bytes
-- that follow.
pub record PrefixedThere (B content rest : List ℕ) : Type 0 where
  pub size : Num B 0 w32 ≡ Some (length content)
  pub bytes : drop 4 B ≡ content ++ rest

abbrev pub prefixed_clauses : List ℕ → List Clause
prefixed_clauses B =
    number_clause B 0 w32 ∷ clause (4 + number B 0 w32 ≤ length B) InvalidLength ∷ []

-- a size-prefixed buffer's reading
abbrev pub prefixed_reading : List ℕ → Reading Prefixed
prefixed_reading B = record {
  There = λ prefixed. PrefixedThere B prefixed.content prefixed.rest;
  clauses = prefixed_clauses B;
}

-- the slice of the content, and the rest
pub record ShowsPrefixed (prefixed : Prefixed) (shows : SliceWithStartOffset × Bor (List ℕ))
    : Type 0 where
  pub content : slice_bytes shows.0 ≡ prefixed.content
  pub begin : slice_start shows.0 ≡ 4
  pub rest : shows.1.now ≡ prefixed.rest

-- a size-prefixed buffer with nothing after it
abbrev pub IsPrefixed : List ℕ → Type 0
IsPrefixed B = Num B 0 w32 ≡ Some (length (drop 4 B))

-- A buffer reads as its bytes after the size.
abbrev pub BuffersAreRead : Type 0
BuffersAreRead =
    (B rest : List ℕ) → IsPrefixed B
    → IsAnswered (prefixed_reading (B ++ rest)) (record { content = drop 4 B; rest = rest })

abbrev pub StreamReads : List ℕ → List (List ℕ) → List ℕ → Type 0
StreamReads B [] left = B ≡ left
StreamReads B (buffer ∷ buffers) left =
    (rest : List ℕ)
    × IsAnswered (prefixed_reading B) (record { content = drop 4 buffer; rest = rest })
    × StreamReads rest buffers left

-- Buffers are read one by one.
abbrev pub StreamsRead : Type 0
StreamsRead =
    (buffers : List (List ℕ)) (left : List ℕ) → AllByRecursion IsPrefixed buffers
    → StreamReads (concat buffers ++ left) buffers left

-- A buffer cut off after its size is too short.
abbrev pub CutsAreRefused : Type 0
CutsAreRefused =
    (B : List ℕ) (n : ℕ) → IsPrefixed B → 4 ≤ n → n < length B → (r : Result Prefixed ErrorKind)
    → Answer (prefixed_reading (take n B)) r
    → r ≡ Err InvalidLength
