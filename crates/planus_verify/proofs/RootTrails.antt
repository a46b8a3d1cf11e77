-- Trails from a root, by what a search of its table answers.
use Rattle.std.proofs.Common.{◌≡◌, ℕ, ◌+◌, ◌<◌, List, drop, reverse, refl, sym, subst, ◌∙◌, arith, inl, inr, Ok, Err}
use Rattle.planus_read.specs.Clauses.{Answer, shown, FirstBroken}
use Rattle.planus_read.specs.Reading.{target, slots_of, table_reading, table_clauses}
use Rattle.planus_read.specs.Tables.{ShowsTable, table_object, table_slots, table_start}
use Rattle.planus_read.specs.declared.errors.ErrorKind.{ErrorKind}
use Rattle.planus_read.specs.declared.table_reader.Table.{Table}
use Rattle.planus_verify.specs.Schemas.{Shapes}
use Rattle.planus_verify.specs.Searches.{LeadsWithin, SearchesTable}
use Rattle.planus_verify.specs.Trails.{IsTrail, NoTrail, OfPlace, root_tables}
use Rattle.planus_verify.specs.Verified.{tables_in}
use Rattle.planus_verify.specs.declared.fault.FieldPlace.{FieldPlace}
use Rattle.planus_verify.specs.declared.search_end.SearchEnd.{SearchEnd}
use Rattle.planus_verify.specs.declared.search_end.SearchEnd.TheVariants.{Found, TooMany, NoMemory}
use Rattle.planus_verify.proofs.Outcomes.{broken}
use Rattle.planus_verify.proofs.Tables.{IsTableAt, table_is}

module _ (schema : Shapes) (Ends : OfPlace) (depth t : ℕ) (B S : List ℕ) (begin : ℕ)
    (bytes : B ≡ S) where
  -- The root can't be read.
  pub no_root :
      (e : ErrorKind) → FirstBroken (table_clauses B 0) e → NoTrail schema t depth Ends S
  no_root e fails trail (i, o, v, b, inl (root, holds, first), leads, short) =
      broken (table_clauses S 0) e (subst (λ l. FirstBroken (table_clauses l 0) e) bytes fails) holds
  no_root e fails trail (i, o, v, b, inr never, leads, short) = never

  module _ (begins : begin ≡ 0) (table : Table)
      (there : Answer (shown (ShowsTable B begin) (table_reading B 0)) (Ok table)) where
    abbrev At : List FieldPlace → Type 0
    At trail =
        LeadsWithin schema Ends depth trail t (table_object table) (table_slots table)
        (table_start table)

    root : IsTableAt S 0 0 table
    root =
        subst (λ l. IsTableAt l 0 0 table) bytes
        (subst (λ k. IsTableAt B k 0 table) begins (table_is B begin 0 table there))

    pub root_leads : (trail : List FieldPlace) → At trail → IsTrail schema t depth Ends S trail
    root_leads trail h = (
      t,
      table_object table,
      table_slots table,
      table_start table,
      inl (refl, root.holds, (refl, root.object, root.slots, root.begins)),
      h.0,
      h.1,
    )

    root_from : (trail : List FieldPlace) → IsTrail schema t depth Ends S trail → At trail
    root_from trail (i, o, v, b, inl (e, holds, (it, io, iv, ib)), leads, short) =
        subst
        (λ k. LeadsWithin schema Ends depth trail k (table_object table) (table_slots table)
        (table_start table)) it
        (subst
        (λ k. LeadsWithin schema Ends depth trail i k (table_slots table) (table_start table))
        (io ∙ sym root.object)
        (subst (λ k. LeadsWithin schema Ends depth trail i o k (table_start table))
        (iv ∙ sym root.slots)
        (subst (λ k. LeadsWithin schema Ends depth trail i o v k) (ib ∙ sym root.begins)
        (leads, short))))
    root_from trail (i, o, v, b, inr never, leads, short) = absurd never

    pub root_none :
        (left rest : ℕ)
        → SearchesTable schema Ends depth t (table_object table) (table_slots table)
        (table_start table) left (Ok rest) → NoTrail schema t depth Ends S
    root_none left rest h trail leads = h.0 trail (root_from trail leads)

    pub root_many :
        (left : ℕ) (end : SearchEnd) → end ≡ TooMany
        → SearchesTable schema Ends depth t (table_object table) (table_slots table)
        (table_start table) left (Err end) → left < root_tables schema t depth S
    root_many left end is h =
        let many : left < tables_in schema depth t (table_object table) (table_slots table)
        (table_start table) =
        subst
        (λ e. SearchesTable schema Ends depth t (table_object table) (table_slots table)
        (table_start table) left (Err e)) is h in
        let more : left < tables_in schema depth t (drop (target S 0) S) (slots_of S (target S 0))
        (0 + target S 0) =
        subst
        (λ k. left < tables_in schema depth t k (slots_of S (target S 0)) (0 + target S 0))
        root.object
        (subst (λ k. left < tables_in schema depth t (table_object table) k (0 + target S 0))
        root.slots
        (subst
        (λ k. left < tables_in schema depth t (table_object table) (table_slots table) k)
        root.begins many)) in
        omega (arith, more)

    pub root_memory :
        (left : ℕ) (end : SearchEnd) → end ≡ NoMemory
        → SearchesTable schema Ends depth t (table_object table) (table_slots table)
        (table_start table) left (Err end)
        → (trail : List FieldPlace) × IsTrail schema t depth Ends S trail
    root_memory left end is h =
        let some : (trail : List FieldPlace) × At trail =
        subst
        (λ e. SearchesTable schema Ends depth t (table_object table) (table_slots table)
        (table_start table) left (Err e)) is h in
        (some.0, root_leads some.0 some.1)

    pub root_found :
        (left : ℕ) (end : SearchEnd) (found : _) (trail : List FieldPlace) → end ≡ Found found
        → trail ≡ reverse found.items
        → SearchesTable schema Ends depth t (table_object table) (table_slots table)
        (table_start table) left (Err end) → IsTrail schema t depth Ends S trail
    root_found left end found trail is turned h =
        let leads : At (reverse found.items) =
        subst
        (λ e. SearchesTable schema Ends depth t (table_object table) (table_slots table)
        (table_start table) left (Err e)) is h in
        root_leads trail (subst At (sym turned) leads)
