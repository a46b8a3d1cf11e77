-- Verified vectors as the checked accessors return them, but for the types of their items.
use Rattle.std.specs.Prelude.{ℕ}
use Rattle.planus_read.specs.contracts.impls.primitives.U32Plain.TheImpl.{ghosts as u32_plain}
use Rattle.planus_view.specs.declared.union_vector.UnionSliceView.{UnionSliceView}
use Rattle.planus_view.specs.declared.vector.SliceView.{SliceView}
use Rattle.planus_view.specs.declared.vector_of.VectorOf.{VectorOf}
use Rattle.planus_views.specs.declared.table_vectors.Tables.{Tables}
use Rattle.planus_views.specs.declared.texts.Texts.{Texts}
use Rattle.planus_views.specs.declared.unions.Unions.{Unions}

-- a vector of references
abbrev pub References : Type 0
References = VectorOf (SliceView ℕ ℕ u32_plain)

abbrev pub checked_tables : {V K : _} {kind : _} → Tables V K kind → References
checked_tables tables = tables.references

abbrev pub checked_texts : Texts → References
checked_texts texts = texts.references

abbrev pub checked_unions : {U K : _} {kind : _} → Unions U K kind → VectorOf (UnionSliceView U U)
checked_unions unions =
    record {
      view = record {
        tags = unions.tags;
        values = unions.references;
        count = unions.count;
        _marker = record {};
        tags_inside = unions.tags_inside;
        values_inside = unions.references_inside;
      };
    }
