-- The root after a size reads back.
use Rattle.std.proofs.Common.{◌≡◌, ℕ, List, codes, ◌++◌, drop, Option, Result, Ok, Err, subst, sym, ap, ◌∙◌}
use Rattle.std.proofs.Common.{inl, inr}
use Rattle.std.specs.Prelude.{IsOkAnd}
use Rattle.std.specs.Borrow.{Bor}
use Rattle.planus_read.specs.declared.errors.ErrorKind.{ErrorKind}
use Rattle.planus_read.specs.declared.located.Error.{Error}
use Rattle.planus_read.specs.declared.table_reader.Table.{Table}
use Rattle.planus_read.specs.Clauses.{FirstBroken}
use Rattle.planus_read.specs.Located.{Located}
use Rattle.planus_read.specs.SizePrefixed.{Prefixed, PrefixedThere, IsPrefixed, prefixed_clauses}
use Rattle.planus_read.specs.Stands.{ReferenceStands}
use Rattle.planus_read.proofs.SizePrefixed.{buffers_are_read}
use Rattle.planus_read.proofs.SliceLaws.{references_lead}
use Rattle.planus_write.specs.Contents.{Content}
use Rattle.planus.specs.ReadBack.{ContentsStand, TableHolds}
use Rattle.planus.specs.SizedRoots.{IsSizedRoot, ReadsSized}
use Rattle.planus.specs.Views.{reads_as}
use Rattle.planus.proofs.Accessors.{view_led}

pub located_as : {A : Type 0} (P : Result A ErrorKind → Type 0) (read : Result A ErrorKind)
    (name method : List ℕ) (offset : ℕ) → P read → (r : Result A Error)
    → Located (λ answer. answer ≡ read) name method offset r → Located P name method offset r
located_as P read name method offset h (Ok x) is = subst P (sym is) h
located_as P read name method offset h (Err e) is = (subst P (sym is.0) h, is.1)

module _ {V : Type 0} (table_of : V → Table) (B : List ℕ) where
  module _ (buffer rest : List ℕ) (contents : List (ℕ × Option Content)) (distance : ℕ)
      (is : B ≡ buffer ++ rest) (sized : IsPrefixed buffer)
      (stands : ContentsStand buffer contents distance)
      (referred : ReferenceStands buffer 4 distance) where
    same : (prefixed : Prefixed) → PrefixedThere B prefixed.content prefixed.rest
        → prefixed ≡ record { content = drop 4 buffer; rest = rest }
    same prefixed there =
        (buffers_are_read buffer rest sized).alone prefixed
        (subst (λ (l : List ℕ). PrefixedThere l prefixed.content prefixed.rest) is there)

    read : (prefixed : Prefixed) → PrefixedThere B prefixed.content prefixed.rest
        → (r : Result V ErrorKind) → reads_as table_of prefixed.content 4 0 r
        → IsOkAnd r (λ view. TableHolds buffer contents (table_of view))
    read prefixed there r reads =
        view_led table_of buffer contents distance stands 4 0
        (references_lead buffer 4 distance referred) r
        (subst (λ (l : List ℕ). reads_as table_of l 4 0 r)
        (ap (λ (p : Prefixed). p.content) (same prefixed there)) reads)

    back : (r : Result (V × Bor (List ℕ)) ErrorKind) → ReadsSized table_of B r
        → IsOkAnd r (λ found. TableHolds buffer contents (table_of found.0) × (found.1.now ≡ rest))
    back (Ok found) (prefixed, there, reads, behind) = (
      read prefixed there (Ok found.0) reads,
      behind ∙ ap (λ (p : Prefixed). p.rest) (same prefixed there),
    )
    back (Err e) (inl broken) =
        let wrong = (buffers_are_read buffer rest sized).only (Err e)
        (subst (λ (l : List ℕ). FirstBroken (prefixed_clauses l) e) is broken) in
        absurd (cc (wrong))
    back (Err e) (inr (prefixed, there, reads)) = read prefixed there (Err e) reads

  located : (name : List ℕ) (buffer rest : List ℕ) (contents : List (ℕ × Option Content))
      (distance : ℕ) → B ≡ buffer ++ rest → IsPrefixed buffer → ContentsStand buffer contents distance
      → ReferenceStands buffer 4 distance → (r : Result (V × Bor (List ℕ)) Error)
      → Located (ReadsSized table_of B) name (codes "read_as_root") 0 r
      → IsOkAnd r (λ found. TableHolds buffer contents (table_of found.0) × (found.1.now ≡ rest))
  located name buffer rest contents distance is sized stands referred (Ok found) h =
      back buffer rest contents distance is sized stands referred (Ok found) h
  located name buffer rest contents distance is sized stands referred (Err e) h =
      back buffer rest contents distance is sized stands referred (Err e.error_kind) h.0

  pub sized_root : (name : List ℕ) (r : Result (V × Bor (List ℕ)) Error)
      → Located (ReadsSized table_of B) name (codes "read_as_root") 0 r
      → IsSizedRoot name table_of B r
  sized_root name r h = record {
    answer = h;
    read_back = λ buffer rest contents distance is sized stands referred.
        located name buffer rest contents distance is sized stands referred r h;
  }
