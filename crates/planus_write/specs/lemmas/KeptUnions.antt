-- Stored union vectors.
use Rattle.std.proofs.Common.{◌≡◌, ℕ, ◌+◌, ◌-◌, ◌*◌, ◌≤◌, List, [], ◌∷◌, length, map, refl, sym, ap}
use Rattle.std.proofs.Common.{◌∙◌, subst, arith, Some, None, lit<}
use mathlib.Core.Path.{fun_ext}
use Rattle.std.specs.Int.{◌∣◌}
use Rattle.std.specs.List.{AllByRecursion}
use Rattle.std.proofs.lemmas.List.{length-map}
use Rattle.std.proofs.lemmas.Nat.Gcd.{dvd_refl}
use Rattle.planus_back.specs.Parts.{Part}
use Rattle.planus_read.specs.Bytes.{BytesStand}
use Rattle.planus_read.specs.Values as value
use Rattle.planus_read.specs.Stands.{ItemsStand}
use Rattle.planus_write.specs.Shared.{CacheSettings}
use Rattle.planus_write.specs.History.{History, Adds, PutsAll}
use Rattle.planus_write.specs.State.{Extends}
use Rattle.planus_write.specs.lemmas.Laws.{extends_on}
use Rattle.planus_write.specs.Parts.{items_bytes, items_part, tags_part, count_part, union_entries}
use Rattle.planus_write.specs.Parts.{tags_in, distances_in, last_of, second_of}
use Rattle.planus_write.specs.Items.{Item, plain_item, reference_item}
use Rattle.planus_write.specs.Kept.{IsKept, AllCachedKept}
use Rattle.planus_write.specs.lemmas.KeptLists.{IsListOf, reference_items, list_kept}
use Rattle.planus_write.specs.lemmas.Staying.{kept_stays}

abbrev tag_item : ℕ → Item
tag_item tag = plain_item (tag ∷ [])

tags_bytes : (place : ℕ) (tags : List ℕ) → items_bytes 1 place (map tag_item tags) ≡ tags
tags_bytes place [] = refl
tags_bytes place (tag ∷ tags) = ap (λ (rest : List ℕ). tag ∷ rest) (tags_bytes (place - 1) tags)

tags_part_is : (tags : List ℕ) → tags_part tags ≡ items_part 1 1 (map tag_item tags)
tags_part_is tags =
    let size : length tags ≡ length (map tag_item tags) * 1 =
    (let e = length-map tags tag_item in omega (arith, e)) in
    ap (λ n. record { size = n; alignment = 4; bytes_at = λ place. tags }) size
    ∙ ap (λ (bytes_at : ℕ → List ℕ). record
    { size = length (map tag_item tags) * 1; alignment = 4; bytes_at = bytes_at })
    (fun_ext (λ place. sym (tags_bytes place tags)))

tags_are : (before : ℕ) (tags : List ℕ) → IsListOf tag_item 1 1 before tags (value.byte_list tags)
tags_are before tags = record {
  sized = λ place. (let e = ap length (tags_bytes place tags) in omega (arith, e));
  positive = lit< tt;
  power = (0, refl);
  divides = dvd_refl 1;
  stands = λ B place within fits ends count there.
      (count, subst (λ bytes. BytesStand B 4 bytes) (tags_bytes place tags) there);
  aligned = λ B k h. h.0;
}

distances_reached : (before : ℕ) (items : List (ℕ × ℕ))
    → AllByRecursion (λ item. item.1 ≤ before) items
    → AllByRecursion (λ distance. distance ≤ before) (distances_in items)
distances_reached before [] h = tt
distances_reached before (item ∷ items) h = (h.0, distances_reached before items h.1)

unions_aligned : (k : ℕ) (items : List (ℕ × ℕ))
    → ItemsStand (λ position item. 4 ∣ position) k 4 (distances_in items)
    → ItemsStand (λ position item. 4 ∣ position) k 4 items
unions_aligned k [] h = tt
unions_aligned k (item ∷ items) h = (h.0, unions_aligned (k + 4) items h.1)

both_kept : (history : History) (items : List (ℕ × ℕ)) (references tags : ℕ)
    → IsKept history (value.reference_list (distances_in items))
    (record { distance = references; tags = None })
    → IsKept history (value.byte_list (tags_in items)) (record { distance = tags; tags = None })
    → IsKept history (value.union_vector items) (record { distance = references; tags = Some tags })
both_kept history items references tags first second = record {
  reached = first.reached;
  tags_reached = second.reached;
  stands = (second.stands, first.stands);
  aligned = λ front keep.
      let list = first.aligned front keep in
      (second.aligned front keep, (list.0, unions_aligned _ items list.1));
}

pub union_vector_kept
    : (settings : CacheSettings) (items : List (ℕ × ℕ)) (before : History) (got : List ℕ)
    (after : History)
    → AllByRecursion (λ item. item.1 ≤ length before.written.bytes) items → AllCachedKept before
    → PutsAll settings (union_entries items) [] before got after
    → IsKept after (value.union_vector items)
    (record { distance = second_of got; tags = Some (last_of got) })
    × AllCachedKept after × Extends before after
union_vector_kept settings items before got after reached all puts =
    let second = puts.3 in
    let third = second.3 in
    let fourth = third.3 in
    let distances : List ℕ = distances_in items in
    let tags : List ℕ = tags_in items in
    let references =
    list_kept reference_item 4 4 distances (value.reference_list distances) settings before
    (puts.0 ∷ second.0 ∷ []) second.1
    (reference_items (length before.written.bytes) distances
    (distances_reached (length before.written.bytes) items reached)) all
    (puts.0, puts.1, puts.2, (second.0, second.1, second.2, (refl, refl))) in
    let listed =
    list_kept tag_item 1 1 tags (value.byte_list tags) settings second.1
    (third.0 ∷ fourth.0 ∷ []) fourth.1
    (tags_are (length second.1.written.bytes) tags) references.1 (
      third.0,
      third.1,
      subst (λ (part : Part). Adds part None second.1 third.0 third.1) (tags_part_is tags) third.2,
      (
        fourth.0,
        fourth.1,
        subst (λ n. Adds (count_part n) None third.1 fourth.0 fourth.1)
            (sym (length-map tags tag_item)) fourth.2,
        (refl, refl),
      ),
    ) in
    let both = both_kept fourth.1 items second.0 fourth.0
    (kept_stays second.1 fourth.1 (value.reference_list distances)
    (record { distance = second.0; tags = None }) listed.2 references.0) listed.0 in
    subst (λ history. IsKept history (value.union_vector items)
    (record { distance = second_of got; tags = Some (last_of got) }) × AllCachedKept history
    × Extends before history) (sym fourth.3.1) (
      subst (λ (all : List ℕ). IsKept fourth.1 (value.union_vector items)
          (record { distance = second_of all; tags = Some (last_of all) })) (sym fourth.3.0) both,
      listed.1,
      extends_on before second.1 fourth.1 references.2 listed.2,
    )
