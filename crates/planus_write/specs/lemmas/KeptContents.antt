-- Stored strings and byte vectors.
use Rattle.std.proofs.Common.{◌≡◌, ℕ, ◌+◌, ◌-◌, ◌<◌, ◌≤◌, ◌^◌, List, [], ◌∷◌, ◌++◌, length, take}
use Rattle.std.proofs.Common.{replicate, refl, sym, ap, ◌∙◌, subst, arith, Option, Some, None}
use Rattle.std.proofs.Common.{append_assoc, length-append, Bool, true, false, inl, inr, bytes_eq}
use Rattle.std.specs.Prelude.{◌⊎◌, ◌&&◌, if◌then◌else◌}
use Rattle.std.specs.Int.{w32, to_le_bytes, ◌∣◌}
use Rattle.std.specs.List.{AllByRecursion}
use Rattle.std.proofs.lemmas.Slice.Eq.{bytes_eq-Decides}
use Rattle.std.proofs.Math.Seq.{take-append_seam}
use Rattle.planus_back.specs.Promises.{Keep, Keeps}
use Rattle.planus_back.specs.Padding.{promise_of}
use Rattle.planus_back.specs.Parts.{Part}
use Rattle.planus_read.specs.Values.{Value, Plain}
use Rattle.planus_read.specs.Stands.{Stands, at}
use Rattle.planus_read.specs.Aligned.{AlignedAt}
use Rattle.planus_write.specs.Shared.{ContentsKind, texts, byte_lists, vtables, same_kind, Contents}
use Rattle.planus_write.specs.Shared.{same_contents, CacheSettings, is_on, shared_as, Cached}
use Rattle.planus_write.specs.Shared.{distance_cached, earlier_distance, and_cached}
use Rattle.planus_write.specs.History.{History, Adds, PutsAfter, Puts, PutsAll}
use Rattle.planus_write.specs.State.{Extends}
use Rattle.planus_write.specs.lemmas.Laws.{added_extends, extends_itself}
use Rattle.planus_write.specs.Parts.{text_part, last_of, byte_list_part, apart_part, apart_entry}
use Rattle.planus_write.specs.Kept.{IsKept, KindIsKept, CachedIsKept, AllCachedKept}
use Rattle.planus_write.specs.lemmas.PartBytes.{length_after, text_size, byte_list_size}
use Rattle.planus_write.specs.lemmas.PartBytes.{front_number, kept_at_front}
use Rattle.planus_write.specs.lemmas.Staying.{cached_stays}
use Rattle.planus_read.specs.Values as value

text_at_front : (content pad B : List ℕ) → length content < 2 ^ 32
    → Stands (((to_le_bytes w32 (length content) ++ content ++ 0 ∷ []) ++ pad) ++ B) (at 0)
    (value.text content)
text_at_front content pad B small =
    let again : ((content ++ 0 ∷ []) ++ pad) ++ B ≡ (content ++ 0 ∷ []) ++ (pad ++ B) =
    append_assoc (content ++ 0 ∷ []) pad B in (
      front_number (length content) (((content ++ 0 ∷ []) ++ pad) ++ B) small,
      ap (take (length (content ++ 0 ∷ []))) again
          ∙ take-append_seam (content ++ 0 ∷ []) (pad ++ B),
    )

byte_list_at_front : (content pad B : List ℕ) → length content < 2 ^ 32
    → Stands (((to_le_bytes w32 (length content) ++ content) ++ pad) ++ B) (at 0)
    (value.byte_list content)
byte_list_at_front content pad B small = (
  front_number (length content) ((content ++ pad) ++ B) small,
  ap (take (length content)) (append_assoc content pad B) ∙ take-append_seam content (pad ++ B),
)

new_value : (part : Part) (value : Value) (shared : Option Contents) (before : History)
    (distance : ℕ)
    (after : History) (adds : Adds part shared before distance after)
    → length (part.bytes_at adds.placed.place) ≡ part.size
    → Stands after.written.bytes (at 0) value
    → ((B : List ℕ) (k : ℕ) → part.alignment ∣ k → AlignedAt B (at k) value)
    → IsKept after value (record { distance = distance; tags = None })
new_value part value shared before distance after adds sized there aligns =
    let at_end : length after.written.bytes ≡ adds.placed.place =
    length_after part before.written after.written adds.placed sized in
    kept_at_front after value distance (at_end ∙ sym adds.at) there
    (λ front keep.
    let kept : Keeps (length (front ++ after.written.bytes))
    (promise_of adds.placed.place part.alignment) =
    (subst (λ ps. Keep ps (length (front ++ after.written.bytes))) adds.placed.promises
    keep).0 in
    let e : length (front ++ after.written.bytes) - adds.placed.place ≡ length front =
    omega (arith, length-append front after.written.bytes, at_end) in
    aligns (front ++ after.written.bytes) (length front)
    (subst (λ k. part.alignment ∣ k) e kept.aligns))

abbrev pub AreKept : ContentsKind → List ℕ → Part → Type 0
AreKept kind content part =
    (shared : Option Contents) (before : History) (distance : ℕ) (after : History)
    → Adds part shared before distance after → KindIsKept after kind content distance

abbrev pub NewAreKept : ContentsKind → (List ℕ → Part) → Type 0
NewAreKept kind part = (content : List ℕ) → AreKept kind content (part content)

pub new_texts : NewAreKept texts text_part
new_texts content shared before distance after adds =
    let fits : adds.placed.place ≤ 2147483647 = adds.placed.fits in
    let is_place : adds.placed.place
    ≡ length before.written.bytes + adds.placed.padding + (length content + 5) =
    adds.placed.is_place in
    new_value (text_part content) (value.text content) shared before distance after adds
    (text_size content adds.placed.place)
    (subst (λ B. Stands B (at 0) (value.text content)) (sym adds.placed.bytes)
    (text_at_front content (replicate adds.placed.padding 0) before.written.bytes
    (omega (arith, fits, is_place))))
    (λ B k h. h)

pub new_byte_lists : NewAreKept byte_lists byte_list_part
new_byte_lists content shared before distance after adds =
    let fits : adds.placed.place ≤ 2147483647 = adds.placed.fits in
    let is_place : adds.placed.place
    ≡ length before.written.bytes + adds.placed.padding + (length content + 4) =
    adds.placed.is_place in
    new_value (byte_list_part content) (value.byte_list content) shared before distance after adds
    (byte_list_size content adds.placed.place)
    (subst (λ B. Stands B (at 0) (value.byte_list content)) (sym adds.placed.bytes)
    (byte_list_at_front content (replicate adds.placed.padding 0) before.written.bytes
    (omega (arith, fits, is_place))))
    (λ B k h. h)

pub same_of : (a b : ContentsKind) → same_kind a b ≡ true → a ≡ b
same_of texts texts e = refl
same_of byte_lists byte_lists e = refl
same_of vtables vtables e = refl
same_of texts byte_lists e = (cc)
same_of texts vtables e = (cc)
same_of byte_lists texts e = (cc)
same_of byte_lists vtables e = (cc)
same_of vtables texts e = (cc)
same_of vtables byte_lists e = (cc)

pub and_parts : (a b : Bool) → a && b ≡ true → (a ≡ true) × (b ≡ true)
and_parts true b e = (refl, e)
and_parts false b e = (cc)

found_kept :
    (history : History) (cached : List Cached) (kind : ContentsKind) (bytes : List ℕ) (d : ℕ)
    → AllByRecursion (CachedIsKept history) cached
    → distance_cached cached (record { kind = kind; bytes = bytes }) ≡ Some d
    → KindIsKept history kind bytes d
found_kept history [] kind bytes d h e = (cc)
found_kept history (one ∷ cached) kind bytes d h e =
    by_test (λ later. found_kept history cached kind bytes d h.1 later)
    (same_contents one.contents (record { kind = kind; bytes = bytes })) refl e
  where
    by_test : (distance_cached cached (record { kind = kind; bytes = bytes }) ≡ Some d
        → KindIsKept history kind bytes d) → (equal : Bool)
        → same_contents one.contents (record { kind = kind; bytes = bytes }) ≡ equal
        → (if equal then Some one.distance else distance_cached cached
        (record { kind = kind; bytes = bytes })) ≡ Some d → KindIsKept history kind bytes d
    by_test further true equal e =
        let both = and_parts (same_kind one.contents.kind kind) (bytes_eq one.contents.bytes bytes)
        equal in
        let at : one.distance ≡ d = cc in
        subst (λ n. KindIsKept history kind bytes n) at
        (subst (λ xs. KindIsKept history kind xs one.distance)
        ((bytes_eq-Decides one.contents.bytes bytes).0 both.1)
        (subst (λ k. KindIsKept history k one.contents.bytes one.distance)
        (same_of one.contents.kind kind both.0) h.0))
    by_test further false equal e = further e

pub shared_or_not : (settings : CacheSettings) (contents : Contents)
    → (shared_as settings (Some contents) ≡ None)
    ⊎ (shared_as settings (Some contents) ≡ Some contents)
shared_or_not settings contents = by_test (is_on settings contents.kind)
  where
    by_test : (on : Bool)
        → ((if on then Some contents else None) ≡ None)
        ⊎ ((if on then Some contents else None) ≡ Some contents)
    by_test true = inr refl
    by_test false = inl refl

pub added_kept : (kind : ContentsKind) (content : List ℕ) (part : Part) (shared : Option Contents)
    → (shared ≡ None) ⊎ (shared ≡ Some (record { kind = kind; bytes = content }))
    → (before : History) (distance : ℕ) (after : History) → AllCachedKept before
    → KindIsKept after kind content distance → Adds part shared before distance after
    → AllCachedKept after
added_kept kind content part shared is_shared before distance after all kept adds =
    let extends = added_extends part shared before distance after adds in
    let old : AllByRecursion (CachedIsKept after) before.cached =
    cached_stays before after extends before.cached all in
    subst (AllByRecursion (CachedIsKept after)) (sym adds.cached)
    (elim is_shared as
    (λ _. AllByRecursion (CachedIsKept after) (and_cached shared distance before.cached)) [
      | inl none ↦ subst
          (λ (s : Option Contents). AllByRecursion (CachedIsKept after)
          (and_cached s distance before.cached)) (sym none) old
      | inr some ↦ subst
          (λ (s : Option Contents). AllByRecursion (CachedIsKept after)
          (and_cached s distance before.cached)) (sym some) (kept, old)
    ])

pub alone_kept : (part : Part) (before : History) (distance : ℕ) (after : History)
    → AllCachedKept before
    → Adds part None before distance after → AllCachedKept after
alone_kept part before distance after all adds =
    subst (AllByRecursion (CachedIsKept after)) (sym adds.cached)
    (cached_stays before after
    (added_extends part None before distance after adds) before.cached all)

pub apart_is_kept : (item : Plain) (shared : Option Contents) (before : History) (distance : ℕ)
    (after : History) → Adds (apart_part item) shared before distance after
    → IsKept after (value.apart item) (record { distance = distance; tags = None })
apart_is_kept item shared before distance after adds =
    let rest = replicate adds.placed.padding 0 ++ before.written.bytes in
    let same : after.written.bytes ≡ item.bytes ++ rest =
    adds.placed.bytes
    ∙ append_assoc item.bytes (replicate adds.placed.padding 0) before.written.bytes in
    new_value (apart_part item) (value.apart item) shared before distance after adds refl
    (subst (λ B. Stands B (at 0) (value.apart item)) (sym same) (
      rw (length-append item.bytes rest) (omega arith),
      take-append_seam item.bytes rest,
    ))
    (λ B k h. h)

pub apart_kept : (item : Plain) (settings : CacheSettings) (before : History) (got : List ℕ)
    (after : History) → AllCachedKept before
    → PutsAll settings (apart_entry item ∷ []) [] before got after
    → IsKept after (value.apart item) (record { distance = last_of got; tags = None })
    × AllCachedKept after × Extends before after
apart_kept item settings before got after all puts =
    let adds : Adds (apart_part item) None before puts.0 after =
    subst (λ history. Adds (apart_part item) None before puts.0 history) (sym puts.3.1) puts.2 in (
      subst (λ n. IsKept after (value.apart item) (record { distance = n; tags = None }))
          (sym (ap last_of puts.3.0)) (apart_is_kept item None before puts.0 after adds),
      alone_kept (apart_part item) before puts.0 after all adds,
      added_extends (apart_part item) None before puts.0 after adds,
    )

abbrev pub ContentsKept : ContentsKind → List ℕ → History → ℕ → History → Type 0
ContentsKept kind content before distance after = KindIsKept after kind content distance
    × AllCachedKept after × Extends before after

module _ (kind : ContentsKind) (part : List ℕ → Part) (new_kept : NewAreKept kind part)
    (content : List ℕ) (before : History) (distance : ℕ) (after : History)
    (all : AllCachedKept before) where
  abbrev contents : Contents
  contents = record { kind = kind; bytes = content }

  put_new : (shared : Option Contents) → (shared ≡ None) ⊎ (shared ≡ Some contents)
      → Adds (part content) shared before distance after
      → ContentsKept kind content before distance after
  put_new shared is_shared adds =
      let kept = new_kept content shared before distance after adds in (
        kept,
        added_kept kind content (part content) shared is_shared before distance after all kept adds,
        added_extends (part content) shared before distance after adds,
      )

  put_shared : (shared : Option Contents) → (shared ≡ None) ⊎ (shared ≡ Some contents)
      → (earlier : Option ℕ) → earlier_distance before.cached shared ≡ earlier
      → PutsAfter earlier (part content) shared before distance after
      → ContentsKept kind content before distance after
  put_shared shared is_shared None e put = put_new shared is_shared put
  put_shared shared is_shared (Some d) e put =
      let cached_there : KindIsKept before kind content d =
      elim is_shared as (λ _. KindIsKept before kind content d) [
        | inl none ↦
            (let f : earlier_distance before.cached None ≡ Some d =
            subst (λ (s : Option Contents). earlier_distance before.cached s ≡ Some d) none e in
            absurd (cc))
        | inr some ↦ found_kept before before.cached kind content d all
            (subst (λ (s : Option Contents). earlier_distance before.cached s ≡ Some d) some e)
      ] in
      subst (λ history. ContentsKept kind content before distance history) (sym put.1) (
        subst (λ n. KindIsKept before kind content n) (sym put.0) cached_there,
        all,
        extends_itself
            before,
      )

pub put_kept : (kind : ContentsKind) (part : List ℕ → Part) → NewAreKept kind part
    → (settings : CacheSettings) (content got : List ℕ) (before : History) (distance : ℕ)
    (after : History)
    → AllCachedKept before
    → Puts settings
    (record {
      contents = Some (record { kind = kind; bytes = content });
      part =
          λ got promises. part content;
    }) got before distance after
    → ContentsKept kind content before distance after
put_kept kind part new_kept settings content got before distance after all put =
    let shared : Option Contents =
    shared_as settings (Some (record { kind = kind; bytes = content })) in
    put_shared kind part new_kept content before distance after all shared
    (shared_or_not settings (record { kind = kind; bytes = content }))
    (earlier_distance before.cached shared) refl put

pub contents_kept : (kind : ContentsKind) (part : List ℕ → Part) → NewAreKept kind part
    → (settings : CacheSettings) (content : List ℕ) (before : History) (got : List ℕ)
    (after : History)
    → AllCachedKept before
    → PutsAll settings
    (record {
      contents = Some (record { kind = kind; bytes = content });
      part =
          λ got promises. part content;
    } ∷ []) [] before got after
    → ContentsKept kind content before (last_of got) after
contents_kept kind part new_kept settings content before got after all puts =
    let put = put_kept kind part new_kept settings content [] before puts.0 puts.1 all puts.2 in
    subst (λ history. ContentsKept kind content before (last_of got) history) (sym puts.3.1)
    (subst (λ n. ContentsKept kind content before n puts.1) (sym (ap last_of puts.3.0)) put)
