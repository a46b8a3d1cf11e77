-- What is stored stays so, whatever is prepended.
use Rattle.std.proofs.Common.{◌≡◌, ℕ, ◌+◌, ◌-◌, ◌≤◌, List, [], ◌∷◌, ◌++◌, length, take, sym, ap}
use Rattle.std.proofs.Common.{◌∙◌, subst, arith, Option, Some, None, append_assoc, length-append}
use Rattle.std.specs.List.{AllByRecursion}
use Rattle.planus_back.specs.Promises.{Promise, Keep}
use Rattle.planus_read.specs.Bytes.{BytesStand}
use Rattle.planus_read.specs.Values.{Value}
use Rattle.planus_read.specs.Stands.{Stands, Position, at, at_both}
use Rattle.planus_read.specs.Moves.{moved}
use Rattle.planus_read.specs.Aligned.{AlignedAt}
use Rattle.planus_read.proofs.Moves.{keeps_standing, rest_moves}
use Rattle.planus_write.specs.Shared.{ContentsKind, texts, byte_lists, vtables, Cached}
use Rattle.planus_write.specs.History.{History}
use Rattle.planus_write.specs.State.{Extends}
use Rattle.planus_write.specs.Parts.{Named, position_with, position_in}
use Rattle.planus_write.specs.Kept.{TagsReached, IsKept, KindIsKept, CachedIsKept}
use Rattle.planus_write.specs.Standing.{KeptStays}
use Rattle.planus_read.specs.Values as value

position_moves : (front B : List ℕ) (distance : ℕ) (tags : Option ℕ) → distance ≤ length B
    → TagsReached (length B) tags
    → position_with (front ++ B) distance tags ≡ moved (length front)
    (position_with B distance tags)
position_moves front B distance None le reached = ap at (omega (arith, length-append front B, le))
position_moves front B distance (Some tags) le reached =
    ap (λ k. at_both k (length (front ++ B) - distance))
    (let e : length (front ++ B) - tags ≡ length front + (length B - tags) =
    omega (arith, length-append front B, reached) in e)
    ∙ ap (at_both (length front + (length B - tags))) (omega (arith, length-append front B, le))

moved_twice : (m n : ℕ) (p : Position) → moved m (moved n p) ≡ moved (m + n) p
moved_twice m n (at k) = ap at (omega arith)
moved_twice m n (at_both kt kv) =
    ap (λ k. at_both k (m + (n + kv))) (let e : m + (n + kt) ≡ m + n + kt = omega arith in e)
    ∙ ap (at_both (m + n + kt)) (omega arith)

keep_fewer : (more promises : List Promise) (L : ℕ) → Keep (more ++ promises) L → Keep promises L
keep_fewer [] promises L keep = keep
keep_fewer (p ∷ more) promises L keep = keep_fewer more promises L keep.1

tags_further : (n m : ℕ) (tags : Option ℕ) → n ≤ m → TagsReached n tags → TagsReached m tags
tags_further n m None le reached = tt
tags_further n m (Some tags) le reached = omega (arith, le, reached)

module _ (before after : History) (extends : Extends before after) where
  abbrev B : List ℕ
  B = before.written.bytes

  abbrev front : List ℕ
  front = extends.bytes.0

  same : after.written.bytes ≡ front ++ B
  same = extends.bytes.1

  longer : length after.written.bytes ≡ length front + length B
  longer = ap length same ∙ length-append front B

  keep_before : (L : ℕ) → Keep after.written.promises L → Keep before.written.promises L
  keep_before L keep =
      keep_fewer extends.promises.0 before.written.promises L
      (subst (λ ps. Keep ps L) extends.promises.1 keep)

  module _ (value : Value) (named : Named) (kept : IsKept before value named) where
    abbrev p : Position
    p = position_in B named

    moves : position_in after.written.bytes named ≡ moved (length front) p
    moves = ap (λ bytes. position_in bytes named) same
        ∙ position_moves front B named.distance named.tags kept.reached kept.tags_reached

    aligned_on : (more : List ℕ)
        → Keep after.written.promises (length (more ++ after.written.bytes))
        → AlignedAt (more ++ after.written.bytes)
        (moved (length more) (position_in after.written.bytes named)) value
    aligned_on more keep =
        let whole : more ++ after.written.bytes ≡ (more ++ front) ++ B =
        ap (λ bytes. more ++ bytes) same ∙ sym (append_assoc more front B) in
        let at_once : moved (length (more ++ front)) p
        ≡ moved (length more) (position_in after.written.bytes named)
        = ap (λ n. moved n p) (length-append more front)
        ∙ sym (moved_twice (length more) (length front) p)
        ∙ ap (moved (length more)) (sym moves) in
        subst (λ bytes. AlignedAt bytes
        (moved (length more) (position_in after.written.bytes named)) value) (sym whole)
        (subst (λ q. AlignedAt ((more ++ front) ++ B) q value) at_once
        (kept.aligned (more ++ front)
        (subst (λ bytes. Keep before.written.promises (length bytes)) whole
        (keep_before (length (more ++ after.written.bytes)) keep))))

    stays : IsKept after value named
    stays = record {
      reached = let le = kept.reached in omega (arith, longer, le);
      tags_reached =
          tags_further (length B) (length after.written.bytes) named.tags (omega (arith, longer))
          kept.tags_reached;
      stands = subst (λ bytes. Stands bytes (position_in after.written.bytes named) value)
          (sym same)
          (subst (λ q. Stands (front ++ B) q value) (sym moves)
          (keeps_standing front B p value kept.stands));
      aligned = aligned_on;
    }

  pub kind_stays : (kind : ContentsKind) (bytes : List ℕ) (distance : ℕ)
      → KindIsKept before kind bytes distance
      → KindIsKept after kind bytes distance
  kind_stays texts bytes distance h =
      stays (value.text bytes) (record { distance = distance; tags = None }) h
  kind_stays byte_lists bytes distance h =
      stays (value.byte_list bytes) (record { distance = distance; tags = None }) h
  kind_stays vtables bytes distance h = (
    (let le = h.0 in omega (arith, longer, le)),
    subst (λ xs. BytesStand xs (length after.written.bytes - distance) bytes) (sym same)
        (ap (take (length bytes))
        (rest_moves front B (length B - distance) (length after.written.bytes - distance)
        (let le = h.0 in omega (arith, longer, le))) ∙ h.1),
    λ L keep. h.2 L (keep_before L keep),
  )

  pub cached_stays : (cached : List Cached) → AllByRecursion (CachedIsKept before) cached
      → AllByRecursion (CachedIsKept after) cached
  cached_stays [] h = tt
  cached_stays (one ∷ cached) h =
      (kind_stays one.contents.kind one.contents.bytes one.distance h.0, cached_stays cached h.1)

pub kept_stays : KeptStays
kept_stays before after value named extends kept = stays before after extends value named kept
