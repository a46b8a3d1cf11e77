-- Tables as they are read.
use Rattle.std.specs.Prelude.{◌≡◌, ℕ, List, Result, Ok, Err}
use Rattle.planus_read.specs.declared.located.Error.{Error}
use Rattle.planus_read.specs.declared.table_reader.Table.{Table}
use Rattle.planus_read.specs.Clauses.{Answer, shown}
use Rattle.planus_read.specs.Items.{item_method}
use Rattle.planus_read.specs.Located.{Located}
use Rattle.planus_read.specs.Reading.{TableLayout, table_reading}
use Rattle.planus_read.specs.Tables.{Reads, ShowsTable}
use Rattle.planus.specs.declared.tables.kind.table_ref.TableRef.{TableRef}

-- the view of the table of this layout in the slice S
abbrev pub ShowsView : {K : Type 0} → List ℕ → ℕ → TableLayout → TableRef K → Type 0
ShowsView S start layout view = ShowsTable S start layout view.table

-- the results of a view's read, by its table
abbrev pub reads_as : {T : Type 0} → (T → Table) → Reads T
reads_as table_of S start f r =
    Answer (shown (λ layout view. ShowsTable S start layout (table_of view)) (table_reading S f)) r

-- the same as items of a vector, whose errors name these tables and are where the slice begins
abbrev pub gives_as :
    {T : Type 0} → (T → Table) → List ℕ → List ℕ → ℕ → ℕ → Result T Error → Type 0
gives_as table_of name S start f = Located (reads_as table_of S start f) name item_method start

-- the view has the table that was read, or both are the same error
abbrev pub IsSameView : {K T : Type 0} → (T → Table) → Result (TableRef K) Error → Result T Error
    → Type 0
IsSameView table_of (Ok found) (Ok view) = table_of view ≡ found.table
IsSameView table_of (Err e) (Err other) = other ≡ e
IsSameView table_of (Ok found) (Err other) = ⊥
IsSameView table_of (Err e) (Ok view) = ⊥
