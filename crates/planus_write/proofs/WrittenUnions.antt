-- A union vector is written.
use Rattle.std.proofs.Common.{◌≡◌, ℕ, List, [], ◌∷◌, ◌++◌, length, map, refl, ap, ◌∙◌, subst, inl, inr}
use Rattle.std.specs.Prelude.{Ok, Err}
use Rattle.planus_write.specs.History.{Entry, unshared_entry}
use Rattle.planus_write.specs.Parts.{list_entries, tags_entries, tags_part, count_part, tags_in}
use Rattle.planus_write.specs.Parts.{distances_in, last_of}
use Rattle.planus_write.specs.Items.{Item, reference_item}
use Rattle.planus_write.specs.State.{State}
use Rattle.planus_write.specs.Placing.{Outcome, WritesEntry}
use Rattle.planus_write.specs.Preparing.{PreparesItems, WritesEntries, WritesPrepared}
use Rattle.planus_write.specs.Unions.{item_of, WritesTags, WritesUnionVector}
use Rattle.planus_write.specs.declared.errors.BuildError.{BuildError}
use Rattle.planus_write.specs.declared.offset.List as list
use Rattle.planus_write.specs.declared.offset.Offset.{Offset}
use Rattle.planus_write.specs.declared.union_offset.UnionOffset.{UnionOffset}
use Rattle.planus_write.specs.declared.union_vector_offset.UnionVectorOffset.{UnionVectorOffset}
use Rattle.planus_write.proofs.WrittenLists.{put_behind, refused_behind}

entries_stop : (entries others : List Entry) (got : List ℕ) (old : State) (error : BuildError) (new : State)
    → WritesEntries entries got old (Err error) new → WritesEntries (entries ++ others) got old (Err error) new
entries_stop [] others got old error new h = (cc)
entries_stop (entry ∷ entries) others got old error new (inl h) = inl h
entries_stop (entry ∷ entries) others got old error new (inr h) =
    inr (h.0, h.1, h.2, entries_stop entries others (got ++ h.0 ∷ []) h.1 error new h.3)

pub references_are : {T : Type 0} (unions : List (UnionOffset T))
    → map (λ (offset : Offset (Unit {0})). reference_item offset.distance) (map (λ (union : UnionOffset T). union.offset) unions)
    ≡ map reference_item (distances_in (map item_of unions))
references_are [] = refl
references_are (union ∷ unions) = ap (λ (items : List Item). reference_item union.offset.distance ∷ items) (references_are unions)

pub tags_are : {T : Type 0} (unions : List (UnionOffset T))
    → map (λ (union : UnionOffset T). union.tag) unions ≡ tags_in (map item_of unions)
tags_are [] = refl
tags_are (union ∷ unions) = ap (λ (tags : List ℕ). union.tag ∷ tags) (tags_are unions)

tags_refused_behind : (tags got : List ℕ) (old : State) (error : BuildError) (new : State)
    → WritesEntries (tags_entries tags) [] old (Err error) new → WritesEntries (tags_entries tags) got old (Err error) new
tags_refused_behind tags got old error new (inl h) = inl (refused_behind (tags_part tags) [] got old error new h)
tags_refused_behind tags got old error new (inr (first, between, h, inl refused)) =
    inr (first, between, put_behind (tags_part tags) [] got old first between h, inl (refused_behind (count_part (length tags)) (first ∷ []) (got ++ first ∷ []) between error new refused))
tags_refused_behind tags got old error new (inr (first, between, h, inr (second, after, put, none))) = (cc)

module _ {X T : Type 0} (prepare : X → Outcome (UnionOffset T)) (xs : List X) (unions : List (UnionOffset T)) (old mid : State)
    (prepared : PreparesItems prepare xs old (Ok unions) mid) where
  abbrev references : List Item
  references = map reference_item (distances_in (map item_of unions))

  abbrev tags : List ℕ
  tags = tags_in (map item_of unions)

  pub references_refused : (error : BuildError) (new : State) → WritesPrepared {T = list.List (Offset (Unit {0}))} 4 4 references mid (Err error) new
      → WritesUnionVector prepare xs old (Err error) new
  references_refused error new (inl h) = inr (unions, mid, prepared, entries_stop (list_entries 4 4 references) (tags_entries tags) [] mid error new h)
  references_refused error new (inr h) = (cc)

  module _ (values : Offset (list.List (Offset (Unit {0})))) (between : State) (put : WritesPrepared 4 4 references mid (Ok values) between) where
    same : between ≡ put.2.3.1
    same = put.3.1 ∙ put.2.3.3.1

    counted : values.distance ≡ put.2.3.0
    counted =
        let last : values.distance ≡ last_of put.0 = cc in
        let all : put.0 ≡ put.2.0 ∷ put.2.3.0 ∷ [] = cc in
        last ∙ ap last_of all

    pub tags_refused : (error : BuildError) (new : State) → WritesTags {T = list.List ℕ} tags between (Err error) new
        → WritesUnionVector prepare xs old (Err error) new
    tags_refused error new (inl h) =
        let first = put.2 in
        let second = first.3 in
        let behind : List ℕ = first.0 ∷ second.0 ∷ [] in
        let again = subst (λ (state : State). WritesEntries (tags_entries tags) behind state (Err error) new) same (tags_refused_behind tags behind between error new h) in
        inr (unions, mid, prepared, inr (first.0, first.1, first.2, inr (second.0, second.1, second.2, again)))
    tags_refused error new (inr h) = (cc)

    pub vector_written : (offset : Offset (list.List ℕ)) (vector : UnionVectorOffset T) (new : State) → WritesTags tags between (Ok offset) new
        → vector.values.distance ≡ values.distance → vector.tags.distance ≡ offset.distance
        → WritesUnionVector prepare xs old (Ok vector) new
    vector_written offset vector new h of_values of_tags =
        let first = put.2 in
        let second = first.3 in
        let third = h.2 in
        let fourth = third.3 in
        let behind : List ℕ = first.0 ∷ second.0 ∷ [] in
        let put_tags = subst (λ (state : State). WritesEntry (unshared_entry (tags_part tags)) behind state (Ok third.0) third.1) same (put_behind (tags_part tags) [] behind between third.0 third.1 third.2) in
        let put_count = put_behind (count_part (length tags)) (third.0 ∷ []) (first.0 ∷ second.0 ∷ third.0 ∷ []) third.1 fourth.0 fourth.1 fourth.2 in
        let last : offset.distance ≡ last_of h.0 = cc in
        let all : h.0 ≡ third.0 ∷ fourth.0 ∷ [] = cc in (
          first.0 ∷ second.0 ∷ third.0 ∷ fourth.0 ∷ [],
          (unions, mid, prepared, (first.0, first.1, first.2, (second.0, second.1, second.2, (third.0, third.1, put_tags, (fourth.0, fourth.1, put_count, (refl, h.3.1 ∙ fourth.3.1)))))),
          of_values ∙ counted,
          of_tags ∙ last ∙ ap last_of all,
        )
