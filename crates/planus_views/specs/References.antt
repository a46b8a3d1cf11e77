-- References that are followed without reading what is there.
use Rattle.std.specs.Prelude.{ℕ, ◌≤◌, List, [], ◌∷◌, length}
use Rattle.std.specs.Int.{w32}
use Rattle.planus_read.specs.Clauses.{Clause, clause}
use Rattle.planus_read.specs.Reading.{target, number_clause}
use Rattle.planus_read.specs.declared.errors.ErrorKind.TheVariants.{InvalidOffset}
use Rattle.planus_read.specs.declared.table_reader.Table.{Table}
use Rattle.planus_views.specs.declared.unread.Unread.{Unread}

-- The reference at f of S is there, and leads to a place in S.
abbrev pub reference_clauses : List ℕ → ℕ → List Clause
reference_clauses S f =
    number_clause S f w32 ∷ clause (target S f ≤ length S) InvalidOffset ∷ []

abbrev pub unread_table : Unread → Table
unread_table unread = unread.table

abbrev pub unread_slot : Unread → ℕ
unread_slot unread = unread.slot
