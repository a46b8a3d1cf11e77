-- Results for the items of vectors.
use Rattle.std.specs.Prelude.{◌≡◌, ℕ, ◌*◌, List, Option, Some, Result, IsOkAnd, IsSomeAnd}
use Rattle.std.specs.Prelude.{slice_get}
use Rattle.std.specs.Borrow.{Bor}
use Rattle.std.specs.Str.{IsUtf8}
use Rattle.planus_read.specs.declared.located.Error.{Error}
use Rattle.planus_read.specs.declared.plain.Plain.{Ghosts as PlainGhosts}
use Rattle.planus_read.specs.declared.table_reader.Table.{Table}
use Rattle.planus_read.specs.Converted.{Converted}
use Rattle.planus_read.specs.Items.{item_method, texts_name}
use Rattle.planus_read.specs.Located.{Located}
use Rattle.planus_read.specs.Tables.{Reads}
use Rattle.planus_view.specs.Indexes.{GetsItem}
use Rattle.planus_view.specs.VectorView.{count_of, view_of}
use Rattle.planus_view.specs.declared.vector.SliceView.{SliceView}
use Rattle.planus_view.specs.declared.vector_of.VectorOf.{VectorOf}
use Rattle.planus.specs.Accessors.{TableIsThere, IsViewOf}
use Rattle.planus.specs.ReadKinds.{reads_text, reads_view}
use Rattle.planus.specs.ReadVectors.{ItemsAreTexts, ItemsAreTables}
use Rattle.planus.specs.Views.{gives_as, reads_as}
use Rattle.planus.specs.declared.tables.kind.table_ref.TableRef.{TableRef}

module _ {T R A : Type 0} {kind : PlainGhosts R} (reads : Reads A) (name : List ℕ) where
  -- the result of an item's read, its error at the start of the items
  abbrev pub IsItemRead : VectorOf (SliceView T R kind) → ℕ → Result A Error → Type 0
  IsItemRead vector i =
      Located (reads (view_of vector).bytes (view_of vector).start (i * kind.SIZE)) name item_method
      (view_of vector).start

-- a string, or none out of bounds
pub record IsTextItem {T R : Type 0} {kind : PlainGhosts R} (vector : VectorOf (SliceView T R kind))
    (index : ℕ) (r : Option (Result (Bor (List ℕ)) Error)) : Type 0 where
  pub answer : GetsItem (λ v. count_of v) (IsItemRead reads_text texts_name) vector index r
  pub read_back :
      (texts : List (List ℕ)) (bytes : List ℕ) → ItemsAreTexts kind texts vector
      → slice_get texts index ≡ Some bytes → IsUtf8 bytes
      → IsSomeAnd r (λ item. IsOkAnd item (λ found. found.now ≡ bytes))

-- what `get` of a vector of tables returns
abbrev pub GetsTable : {T R : Type 0} {kind : PlainGhosts R} → (K : Type 0) → List ℕ
    → VectorOf (SliceView T R kind) → ℕ → Option (Result (TableRef K) Error) → Type 0
GetsTable {T} {R} {kind} K name =
    GetsItem (λ (v : VectorOf (SliceView T R kind)). count_of v)
    (λ v i item. Converted
    (Located (reads_view K (view_of v).bytes (view_of v).start (i * kind.SIZE)) name item_method
    (view_of v).start)
    (λ (e f : Error). f ≡ e) item)

-- the view of a table, or none out of bounds
pub record IsTableItem {T R V : Type 0} {kind : PlainGhosts R} (K : Type 0) (name : List ℕ)
    (table_of : V → Table) (vector : VectorOf (SliceView T R kind)) (index : ℕ)
    (r : Option (Result V Error)) : Type 0 where
  pub answer : GetsItem (λ v. count_of v) (IsItemRead (reads_as table_of) name) vector index r
  pub read_back :
      (B distances : List ℕ) (distance : ℕ) → ItemsAreTables kind K B distances vector
      → slice_get distances index ≡ Some distance → TableIsThere B distance
      → IsSomeAnd r (λ item. IsOkAnd item (IsViewOf table_of B distance))

-- What `get` returns of a vector of views is the view of the table at the index.
abbrev pub TableViewsReadBack : {V R : Type 0} → PlainGhosts R → Type 0 → (V → Table) → Type 0
TableViewsReadBack {V} {R} kind K table_of =
    (name : List ℕ) (vector : VectorOf (SliceView (Result V Error) R kind)) (index : ℕ)
    (r : Option (Result V Error))
    → GetsItem (λ v. count_of v)
    (λ v i item. Converted
    (gives_as table_of name (view_of v).bytes (view_of v).start (i * kind.SIZE))
    (λ (e f : Error). f ≡ e) item)
    vector index r
    → IsTableItem K name table_of vector index r
