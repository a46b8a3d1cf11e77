-- Entries whose part is put, or whose contents are found.
use Rattle.std.proofs.Common.{◌≡◌, ℕ, ◌+◌, ◌-◌, ◌*◌, ◌≤◌, List, [], ◌∷◌, ◌++◌, length, drop, Bool, true, false}
use Rattle.std.proofs.Common.{replicate, refl, sym, ap, ◌∙◌, subst, arith, append_assoc}
use Rattle.std.proofs.Common.{length-append, Option, Some, None, Ok, Err}
use Rattle.std.specs.Prelude.{if◌then◌else◌}
use Rattle.std.proofs.lemmas.List.{length-replicate}
use Rattle.std.specs.Int.{w32, to_le_bytes}
use Rattle.planus_back.specs.CacheKeys.{key_at, bytes_in, vtable_in}
use Rattle.planus_back.specs.Promises.{Promise, Keep, greatest_alignment}
use Rattle.planus_back.specs.Padding.{greatest_place, promise_of}
use Rattle.planus_back.specs.Parts.{Part, Placed}
use Rattle.planus_write.specs.Shared.{ContentsKind, Contents, CacheSettings, Cached, texts, byte_lists, vtables, same_kind, is_on}
use Rattle.planus_write.specs.Shared.{shared_as, earlier_distance, distance_cached, and_cached}
use Rattle.planus_write.specs.History.{History, Entry, unshared_entry, part_after, Adds, PutsAfter, Puts}
use Rattle.planus_write.specs.History.{found_before, no_history}
use Rattle.planus_write.specs.Parts.{front_part, front_entry, root_words, sized_words, sized_finish_entry, identifier_bytes}
use Rattle.planus_write.specs.inner.Backed.{Backed, DescribedBy, Pads, PutsBytes, MakesRoom, LacksRoom}
use Rattle.planus_write.specs.Holding.{Holding, HoldsNothing, HoldsMore, FitsInFront}
use Rattle.planus_write.specs.inner.Sharing.{Shares, FindsIf, Finds, KeepsIf, Keeps, LacksSharedRoom, FindsOrPlans}
use Rattle.planus_write.specs.Kept.{AllCachedKept}
use Rattle.planus_write.specs.State.{State, IsHistoryOf, FindsCached, Holdings, holding_of, contents_in}
use Rattle.planus_write.specs.Placing.{PlacesEntry, MayLackMemory}
use Rattle.planus_write.specs.Placing.{RefusedFor, Refuses, LeftAsItWas}
use Rattle.planus_write.specs.lemmas.Laws.{left_grows}
use Rattle.planus_write.specs.Finishing.{Finishes, PutsInFront}
use Rattle.planus_write.specs.View.{state_from, state_of}
use Rattle.planus_write.specs.declared.backing.Plan.{Plan}
use Rattle.planus_write.specs.declared.sharing.Lookup.TheVariants.{Found, Planned}
use Rattle.planus_write.specs.declared.builder.Builder.TheInside.{Inside}
use Rattle.planus_write.specs.declared.errors.BuildError.{BuildError}
use Rattle.planus_write.specs.declared.errors.BuildError.TheVariants.{OutOfMemory, TooLarge}
use Rattle.planus_write.specs.lemmas.KeptContents.{AreKept, same_of, shared_or_not, added_kept}
use Rattle.planus_write.specs.lemmas.KeptContents.{alone_kept}
use Rattle.std.proofs.lemmas.Bool.Decides.{leb_tells}
use Rattle.planus_write.proofs.PlannedRoom.{makes_room}
use Rattle.planus_write.proofs.SharedContents.{none_is_not_some, finds_still, finds_added, other_finds, finds_nothing}

pub record IsSized (entry : Entry) (got : List ℕ) (old : State) (size alignment : ℕ) : Type 0 where
  pub size_is : (history : History) → IsHistoryOf old history → (part_after entry got history).size ≡ size
  pub alignment_is : (history : History) → IsHistoryOf old history → (part_after entry got history).alignment ≡ alignment

module _ (size alignment place : ℕ) (old mid new : Backed) (bytes : List ℕ)
    (room : MakesRoom size alignment old place mid) (length_is : length bytes ≡ size) (put : PutsBytes bytes mid new) where
  pub new_bytes : new.bytes ≡ (bytes ++ replicate room.padding 0) ++ old.bytes
  new_bytes = ap (λ backed. backed.bytes) put ∙ ap (λ xs. bytes ++ xs) room.bytes ∙ sym (append_assoc bytes (replicate room.padding 0) old.bytes)

  pub new_length : length new.bytes ≡ place
  new_length = ap length new_bytes ∙ simp (length-append, length-replicate) (let h = length_is in let g = room.is_place in omega arith)

  pub new_room : new.room ≡ mid.room - size
  new_room = subst (λ n. new.room ≡ mid.room - n) length_is (ap (λ backed. backed.room) put)

module _ (entry : Entry) (got : List ℕ) (size alignment place : ℕ) (b mid n : Backed) (settings : CacheSettings) (holdings holdings_after : Holdings) (bytes : List ℕ)
    (room : MakesRoom size alignment b place mid) (sized : IsSized entry got (state_from b settings holdings) size alignment)
    (bytes_are : (history : History) → IsHistoryOf (state_from b settings holdings) history → (part_after entry got history).bytes_at place ≡ bytes)
    (length_is : length bytes ≡ size) (put : PutsBytes bytes mid n)
    (is_new : (history : History) → IsHistoryOf (state_from b settings holdings) history → found_before settings entry history ≡ None)
    (cached : (history : History) → IsHistoryOf (state_from b settings holdings) history → (kind : ContentsKind)
    → FindsCached (state_from n settings holdings_after) (and_cached (shared_as settings entry.contents) place history.cached) kind)
    (stays_kept : (history : History) → IsHistoryOf (state_from b settings holdings) history → (after : History)
    → Adds (part_after entry got history) (shared_as settings entry.contents) history place after → AllCachedKept after) where
  abbrev old_state : State
  old_state = state_from b settings holdings

  abbrev new_state : State
  new_state = state_from n settings holdings_after

  there : length n.bytes ≡ place
  there = new_length size alignment place b mid n bytes room length_is put

  abbrev placed : (history : History) → (h : IsHistoryOf old_state history) → Placed (part_after entry got history) history.written (record { bytes = n.bytes; promises = promise_of place (part_after entry got history).alignment ∷ history.written.promises })
  placed history h = record {
    padding = room.padding;
    place = place;
    is_least = rw (h.bytes, sized.size_is history h, sized.alignment_is history h) (room.least history.written.promises h.described);
    is_place = rw (h.bytes, sized.size_is history h) room.is_place;
    fits = room.fits;
    bytes = rw (h.bytes, bytes_are history h) (new_bytes size alignment place b mid n bytes room length_is put);
    promises = refl;
  }

  abbrev after_put : (history : History) → History
  after_put history = record {
    written = record { bytes = n.bytes; promises = promise_of place (part_after entry got history).alignment ∷ history.written.promises };
    cached = and_cached (shared_as settings entry.contents) place history.cached;
    parts = history.parts ++ part_after entry got history ∷ [];
    places = history.places ++ place ∷ [];
  }

  adds : (history : History) → IsHistoryOf old_state history → Adds (part_after entry got history) (shared_as settings entry.contents) history place (after_put history)
  adds history h = record { placed = placed history h; at = refl; cached = refl; parts = refl; places = refl }

  puts_it : (history : History) → IsHistoryOf old_state history → Puts settings entry got history place (after_put history)
  puts_it history h =
      subst (λ (earlier : Option ℕ). PutsAfter earlier (part_after entry got history) (shared_as settings entry.contents) history place (after_put history)) (sym (is_new history h)) (adds history h)

  is_history : (history : History) → IsHistoryOf old_state history → IsHistoryOf new_state (after_put history)
  is_history history h = record {
    bytes = refl;
    described = rw (there, sized.alignment_is history h, ap (λ backed. backed.delayed) put, ap (λ backed. backed.mask) put) (room.described history.written.promises h.described);
    cached = cached history h;
    kept = stays_kept history h (after_put history) (adds history h);
  }

  pub puts_down : PlacesEntry entry got old_state place new_state
  puts_down = record {
    grows = (bytes ++ replicate room.padding 0, new_bytes size alignment place b mid n bytes room length_is put);
    reached = rw there (let le : place ≤ place = omega arith in le);
    fits = rw there room.fits;
    puts = λ history h. (after_put history, puts_it history h, is_history history h);
    room = λ within.
        let h = there in let g = new_room size alignment place b mid n bytes room length_is put in let i = room.is_place in let k = room.size_fits in let falls = room.room in omega arith;
    settings = refl;
  }

refused_large : (entry : Entry) (got : List ℕ) (size alignment : ℕ) (b : Backed) (settings : CacheSettings) (holdings : Holdings) → IsSized entry got (state_from b settings holdings) size alignment
    → ((history : History) → IsHistoryOf (state_from b settings holdings) history → found_before settings entry history ≡ None)
    → LacksRoom size alignment b TooLarge → RefusedFor entry got (state_from b settings holdings) TooLarge
refused_large entry got size alignment b settings holdings sized is_new lacks = λ history h.
    let far = lacks history.written.promises h.described in
    record {
      is_new = is_new history h;
      too_large = record {
        padding = far.0;
        is_least = rw (h.bytes, sized.size_is history h, sized.alignment_is history h) far.1;
        too_great = rw (h.bytes, sized.size_is history h) far.2;
      };
    }

refused_memory : (entry : Entry) (got : List ℕ) (size alignment : ℕ) (b : Backed) (settings : CacheSettings) (holdings : Holdings) → IsSized entry got (state_from b settings holdings) size alignment
    → ((history : History) → IsHistoryOf (state_from b settings holdings) history → found_before settings entry history ≡ None) → shared_as settings entry.contents ≡ None
    → LacksRoom size alignment b OutOfMemory → RefusedFor entry got (state_from b settings holdings) OutOfMemory
refused_memory entry got size alignment b settings holdings sized is_new unshared lacks = λ history h.
    let short = lacks history.written.promises h.described in
    record {
      is_new = is_new history h;
      lacks = subst (λ (shared : Option Contents). MayLackMemory shared (part_after entry got history) (state_from b settings holdings) history.written.promises) (sym unshared)
          (rw (sized.size_is history h, sized.alignment_is history h) short);
    }

module _ (part_from : List ℕ → List Promise → Part) (got : List ℕ) (size alignment : ℕ) (b : Backed) (settings : CacheSettings) (holdings : Holdings)
    (sized : IsSized (record { contents = None; part = part_from }) got (state_from b settings holdings) size alignment) where
  abbrev alone : Entry
  alone = record { contents = None; part = part_from }

  pub alone_down : (place : ℕ) (mid n : Backed) (bytes : List ℕ) → MakesRoom size alignment b place mid
      → ((history : History) → IsHistoryOf (state_from b settings holdings) history → (part_after alone got history).bytes_at place ≡ bytes)
      → length bytes ≡ size → PutsBytes bytes mid n → PlacesEntry alone got (state_from b settings holdings) place (state_from n settings holdings)
  alone_down place mid n bytes room bytes_are length_is put =
      puts_down alone got size alignment place b mid n settings holdings holdings bytes room sized bytes_are length_is put (λ history h. refl)
      (λ history h kind. finds_still (state_from b settings holdings) (state_from n settings holdings) (bytes ++ replicate room.padding 0) (new_bytes size alignment place b mid n bytes room length_is put) history.cached kind (h.cached kind) refl)
      (λ history h after adds. alone_kept (part_after alone got history) history place after h.kept adds)

  pub alone_refused : (error : BuildError) (n : Backed) → n ≡ b → LacksRoom size alignment b error → Refuses alone got (state_from b settings holdings) error (state_from n settings holdings)
  alone_refused TooLarge n same lacks = record {
    unchanged = ap (λ backed. state_from backed settings holdings) same;
    cause = refused_large alone got size alignment b settings holdings sized (λ history h. refl) lacks;
  }
  alone_refused OutOfMemory n same lacks = record {
    unchanged = ap (λ backed. state_from backed settings holdings) same;
    cause = refused_memory alone got size alignment b settings holdings sized (λ history h. refl) refl lacks;
  }

abbrev pub holding : ContentsKind → Holdings → Holding → Holdings
holding texts holdings x = record holdings { held_texts = x }
holding byte_lists holdings x = record holdings { held_byte_lists = x }
holding vtables holdings x = record holdings { held_vtables = x }

holding_it : (kind : ContentsKind) (holdings : Holdings) (x : Holding) → holding_of (holding kind holdings x) kind ≡ x
holding_it texts holdings x = refl
holding_it byte_lists holdings x = refl
holding_it vtables holdings x = refl

holding_others : (kind other : ContentsKind) (holdings : Holdings) (x : Holding) → same_kind kind other ≡ false → holding_of (holding kind holdings x) other ≡ holding_of holdings other
holding_others texts texts holdings x e = cc
holding_others byte_lists byte_lists holdings x e = cc
holding_others vtables vtables holdings x e = cc
holding_others texts byte_lists holdings x e = refl
holding_others texts vtables holdings x e = refl
holding_others byte_lists texts holdings x e = refl
holding_others byte_lists vtables holdings x e = refl
holding_others vtables texts holdings x e = refl
holding_others vtables byte_lists holdings x e = refl

held_again : (kind other : ContentsKind) (holdings : Holdings) (x : Holding) → x ≡ holding_of holdings kind → holding_of (holding kind holdings x) other ≡ holding_of holdings other
held_again kind other holdings x same = by_case (same_kind kind other) refl
  where
    by_case : (b : Bool) → same_kind kind other ≡ b → holding_of (holding kind holdings x) other ≡ holding_of holdings other
    by_case false e = holding_others kind other holdings x e
    by_case true e = subst (λ k. holding_of (holding kind holdings x) k ≡ holding_of holdings k) (same_of kind other e) (holding_it kind holdings x ∙ same)

stands_within : (key_in : List ℕ → Option (List ℕ)) (bytes : List ℕ) (distance : ℕ) (key : List ℕ) → key_at key_in bytes distance ≡ Some key → distance ≤ length bytes
stands_within key_in bytes distance key h = grind (arith, leb_tells, h)

pub at_its_place : (key_in : List ℕ → Option (List ℕ)) (bytes : List ℕ) (place : ℕ) (key : List ℕ) → length bytes ≡ place → key_in bytes ≡ Some key → key_at key_in bytes place ≡ Some key
at_its_place key_in bytes place key long h =
    let whole : length bytes - place ≡ 0 = omega (arith, long) in
    let within : place ≤ length bytes = omega (arith, long) in
    let all : drop (length bytes - place) bytes ≡ bytes = ap (λ n. drop n bytes) whole in
    grind (arith, leb_tells, within, all, h)

abbrev pub shared_entry : ContentsKind → List ℕ → Part → Entry
shared_entry kind contents part = record { contents = Some (record { kind = kind; bytes = contents }); part = λ got promises. part }

module _ (kind : ContentsKind) (contents : List ℕ) (part : Part) (got : List ℕ) (b : Backed) (settings : CacheSettings) (holdings : Holdings) where
  abbrev the_entry : Entry
  the_entry = shared_entry kind contents part

  abbrev before : State
  before = state_from b settings holdings

  abbrev known : Contents
  known = record { kind = kind; bytes = contents }

  sized : IsSized the_entry got before part.size part.alignment
  sized = record { size_is = λ history h. refl; alignment_is = λ history h. refl }

  shared_if : (on : Bool) → is_on settings kind ≡ on → shared_as settings (Some known) ≡ (if on then Some known else None)
  shared_if on e = ap (λ b. if b then Some known else None) e

  not_cached : (history : History) → IsHistoryOf before history → FindsIf true (contents_in kind) (holding_of holdings kind) b.bytes contents None → distance_cached history.cached known ≡ None
  not_cached history h none = by_case (distance_cached history.cached known) refl
    where
      by_case : (answer : Option ℕ) → distance_cached history.cached known ≡ answer → answer ≡ None
      by_case None e = refl
      by_case (Some distance) e = (let x = ((h.cached kind).finds contents distance).0 e in absurd (none distance x.0 x.1))

  is_new : FindsIf (is_on settings kind) (contents_in kind) (holding_of holdings kind) b.bytes contents None → (history : History) → IsHistoryOf before history → found_before settings the_entry history ≡ None
  is_new none history h = by_case (is_on settings kind) refl
    where
      by_case : (on : Bool) → is_on settings kind ≡ on → found_before settings the_entry history ≡ None
      by_case true e =
          ap (earlier_distance history.cached) (shared_if true e) ∙ not_cached history h (subst (λ on. FindsIf on (contents_in kind) (holding_of holdings kind) b.bytes contents None) e none)
      by_case false e = ap (earlier_distance history.cached) (shared_if false e)

  pub shared_found : (distance : ℕ) → FindsIf (is_on settings kind) (contents_in kind) (holding_of holdings kind) b.bytes contents (Some distance)
      → length b.bytes ≤ greatest_place → PlacesEntry the_entry got before distance before
  shared_found distance finds small = by_case (is_on settings kind) refl
    where
      by_case : (on : Bool) → is_on settings kind ≡ on → PlacesEntry the_entry got before distance before
      by_case true e =
          let there : FindsIf true (contents_in kind) (holding_of holdings kind) b.bytes contents (Some distance) = subst (λ on. FindsIf on (contents_in kind) (holding_of holdings kind) b.bytes contents (Some distance)) e finds in
          record {
            grows = ([], refl);
            reached = stands_within (contents_in kind) b.bytes distance contents there.1;
            fits = small;
            puts = λ history h. (
              history,
              subst (λ (earlier : Option ℕ). PutsAfter earlier part (shared_as settings (Some known)) history distance history)
                  (sym (ap (earlier_distance history.cached) (shared_if true e) ∙ ((h.cached kind).finds contents distance).1 there)) (refl, refl),
              h,
            );
            room = λ within. refl;
            settings = refl;
          }
      by_case false e =
          let none : Some distance ≡ None = subst (λ on. FindsIf on (contents_in kind) (holding_of holdings kind) b.bytes contents (Some distance)) e finds in
          absurd (none_is_not_some distance (sym none))

  module _ (place : ℕ) (mid n : Backed) (x : Holding) (bytes : List ℕ) (none : FindsIf (is_on settings kind) (contents_in kind) (holding_of holdings kind) b.bytes contents None)
      (room : MakesRoom part.size part.alignment b place mid) (keeps : KeepsIf (is_on settings kind) (contents_in kind) b.bytes contents place (holding_of holdings kind) x)
      (bytes_are : part.bytes_at place ≡ bytes) (length_is : length bytes ≡ part.size) (put : PutsBytes bytes mid n) (stands : key_at (contents_in kind) n.bytes place ≡ Some contents)
      (are_kept : AreKept kind contents part) where
    abbrev after : State
    after = state_from n settings (holding kind holdings x)

    abbrev cached_more : List Cached → List Cached
    cached_more cached = record { contents = known; distance = place } ∷ cached

    in_front : n.bytes ≡ (bytes ++ replicate room.padding 0) ++ b.bytes
    in_front = new_bytes part.size part.alignment place b mid n bytes room length_is put

    still : (history : History) → IsHistoryOf before history → (other : ContentsKind) → holding_of (holding kind holdings x) other ≡ holding_of holdings other → FindsCached after history.cached other
    still history h other same = finds_still before after (bytes ++ replicate room.padding 0) in_front history.cached other (h.cached other) same

    cached_it : (history : History) → IsHistoryOf before history → is_on settings kind ≡ true → FindsCached after (cached_more history.cached) kind
    cached_it history h e =
        let on : KeepsIf true (contents_in kind) b.bytes contents place (holding_of holdings kind) x = subst (λ on. KeepsIf on (contents_in kind) b.bytes contents place (holding_of holdings kind) x) e keeps in
        let finds : FindsIf true (contents_in kind) (holding_of holdings kind) b.bytes contents None = subst (λ on. FindsIf on (contents_in kind) (holding_of holdings kind) b.bytes contents None) e none in
        let it : holding_of (holding kind holdings x) kind ≡ x = holding_it kind holdings x in
        let adds : HoldsMore (holding_of holdings kind) place (holding_of (holding kind holdings x) kind) = subst (λ (y : Holding). HoldsMore (holding_of holdings kind) place y) (sym it) on.0 in
        let fits : FitsInFront (contents_in kind) b.bytes contents place (holding_of (holding kind holdings x) kind) = subst (λ (y : Holding). FitsInFront (contents_in kind) b.bytes contents place y) (sym it) on.1 in
        finds_added before after (bytes ++ replicate room.padding 0) in_front history.cached kind contents place adds fits stands (not_cached history h finds) (h.cached kind)

    cached_on : (history : History) → IsHistoryOf before history → is_on settings kind ≡ true → (other : ContentsKind) → (same : Bool) → same_kind kind other ≡ same → FindsCached after (cached_more history.cached) other
    cached_on history h e other false apart = other_finds after kind other contents place history.cached apart (still history h other (holding_others kind other holdings x apart))
    cached_on history h e other true same = subst (FindsCached after (cached_more history.cached)) (same_of kind other same) (cached_it history h e)

    cached_after : (history : History) → IsHistoryOf before history → (other : ContentsKind) → (on : Bool) → is_on settings kind ≡ on → FindsCached after (and_cached (shared_as settings (Some known)) place history.cached) other
    cached_after history h other true e =
        subst (λ (shared : Option Contents). FindsCached after (and_cached shared place history.cached) other) (sym (shared_if true e)) (cached_on history h e other (same_kind kind other) refl)
    cached_after history h other false e =
        let same : x ≡ holding_of holdings kind = subst (λ on. KeepsIf on (contents_in kind) b.bytes contents place (holding_of holdings kind) x) e keeps in
        subst (λ (shared : Option Contents). FindsCached after (and_cached shared place history.cached) other) (sym (shared_if false e))
        (still history h other (held_again kind other holdings x same))

    pub shared_down : PlacesEntry the_entry got before place after
    shared_down =
        puts_down the_entry got part.size part.alignment place b mid n settings holdings (holding kind holdings x) bytes room sized (λ history h. bytes_are) length_is put (is_new none)
        (λ history h other. cached_after history h other (is_on settings kind) refl)
        (λ history h after adds.
        added_kept kind contents part (shared_as settings (Some known)) (shared_or_not settings known) history place after h.kept (are_kept (shared_as settings (Some known)) history place after adds) adds)

  pub shared_refused : (error : BuildError) (n : Backed) → FindsIf (is_on settings kind) (contents_in kind) (holding_of holdings kind) b.bytes contents None
      → LacksSharedRoom error (is_on settings kind) part.size part.alignment b n → Refuses the_entry got before error (state_from n settings holdings)
  shared_refused TooLarge n none lacks = record {
    unchanged = ap (λ backed. state_from backed settings holdings) lacks.0;
    cause = refused_large the_entry got part.size part.alignment b settings holdings sized (is_new none) lacks.1;
  }
  shared_refused OutOfMemory n none lacks = by_case (is_on settings kind) refl
    where
      by_case : (on : Bool) → is_on settings kind ≡ on → Refuses the_entry got before OutOfMemory (state_from n settings holdings)
      by_case true e =
          let more : LacksSharedRoom OutOfMemory true part.size part.alignment b n = subst (λ on. LacksSharedRoom OutOfMemory on part.size part.alignment b n) e lacks in
          record {
            unchanged = subst (λ (shared : Option Contents). LeftAsItWas OutOfMemory shared before (state_from n settings holdings)) (sym (shared_if true e))
                (more.0, ap (λ backed. state_from backed settings holdings) more.1);
            cause = λ history h. let place = more.2 history.written.promises h.described in record {
              is_new = is_new none history h;
              lacks = subst (λ (shared : Option Contents). MayLackMemory shared part before history.written.promises) (sym (shared_if true e))
                  place;
            };
          }
      by_case false e =
          let lack : LacksSharedRoom OutOfMemory false part.size part.alignment b n = subst (λ on. LacksSharedRoom OutOfMemory on part.size part.alignment b n) e lacks in
          record {
            unchanged = subst (λ (shared : Option Contents). LeftAsItWas OutOfMemory shared before (state_from n settings holdings)) (sym (shared_if false e))
                (ap (λ backed. state_from backed settings holdings) lack.0);
            cause = refused_memory the_entry got part.size part.alignment b settings holdings sized (is_new none) (shared_if false e) lack.1;
          }

pub part_sized : (part : Part) (old : State) → IsSized (unshared_entry part) [] old part.size part.alignment
part_sized part old = record { size_is = λ history h. refl; alignment_is = λ history h. refl }

pub unshared_refused : (part : Part) (b : Backed) (settings : CacheSettings) (holdings : Holdings) (error : BuildError) (n : Backed) → n ≡ b → LacksRoom part.size part.alignment b error
    → Refuses (unshared_entry part) [] (state_from b settings holdings) error (state_from n settings holdings)
unshared_refused part b settings holdings =
    alone_refused (λ got promises. part) [] part.size part.alignment b settings holdings (part_sized part (state_from b settings holdings))

module _ (part : Part) (place : ℕ) (b mid n : Backed) (settings : CacheSettings) (holdings : Holdings) (room : MakesRoom part.size part.alignment b place mid)
    (count : length (part.bytes_at place) ≡ part.size) (put : PutsBytes (part.bytes_at place) mid n) where
  pub part_put : PlacesEntry (unshared_entry part) [] (state_from b settings holdings) place (state_from n settings holdings)
  part_put = alone_down (λ got promises. part) [] part.size part.alignment b settings holdings (part_sized part (state_from b settings holdings)) place mid n (part.bytes_at place) room (λ history h. refl) count put

  pub part_ends : length n.bytes ≡ place
  part_ends = new_length part.size part.alignment place b mid n (part.bytes_at place) room count put

  pub part_put_last : PlacesEntry (unshared_entry part) [] (state_from b settings holdings) (length n.bytes) (state_from n settings holdings)
  part_put_last = subst (λ m. PlacesEntry (unshared_entry part) [] (state_from b settings holdings) m (state_from n settings holdings)) (sym part_ends) part_put

pub both_put : (front back : List ℕ) (mid between new : Backed) → PutsBytes back mid between → PutsBytes front between new → PutsBytes (front ++ back) mid new
both_put front back mid between new first second =
    second ∙ rw (first, append_assoc front back mid.bytes, length-append front back)
    (ap (λ n. record mid { bytes = front ++ (back ++ mid.bytes); room = n }) (omega arith))

module _ (size : ℕ) (words : ℕ → List ℕ) (alignment : ℕ) (b : Backed) (settings : CacheSettings) (holdings : Holdings)
    (greatest : (promises : List Promise) → DescribedBy b promises → greatest_alignment 4 promises ≡ alignment) where
  pub front_sized : IsSized (front_entry size words) [] (state_from b settings holdings) size alignment
  front_sized = record { size_is = λ history h. refl; alignment_is = λ history h. greatest history.written.promises h.described }

  pub front_refused : (error : BuildError) (n : Backed) → n ≡ b → LacksRoom size alignment b error
      → Refuses (front_entry size words) [] (state_from b settings holdings) error (state_from n settings holdings)
  front_refused = alone_refused (λ got promises. front_part size words promises) [] size alignment b settings holdings front_sized

  module _ (bytes : List ℕ) (place : ℕ) (mid n : Backed)
      (room : MakesRoom size alignment b place mid)
      (put : PutsBytes bytes mid n) (words_are : words place ≡ bytes) (count : length bytes ≡ size)
      (all : (promises : List Promise) → DescribedBy b promises → greatest_alignment 1 promises ≤ alignment)
      (some : (promises : List Promise) × DescribedBy b promises) where
    front_ends : length n.bytes ≡ place
    front_ends = new_length size alignment place b mid n bytes room count put

    none_to_come : n.delayed ≡ 0
    none_to_come =
        let kept : Keep (promise_of place alignment ∷ some.0) place = room.kept some.0 some.1 (all some.0 some.1) in
        let turns : (k : ℕ) × (place ≡ place + mid.delayed + k * (mid.mask + 1)) = ((room.described some.0 some.1).kept place (let le : place ≤ place = omega arith in le)).0 kept in
        let same : n.delayed ≡ mid.delayed = ap (λ backed. backed.delayed) put in
        omega (arith, same, turns.1)

    pub puts_in_front : PutsInFront (front_entry size words) (state_from b settings holdings) place (state_from n settings holdings)
    puts_in_front = record {
      puts = alone_down (λ got promises. front_part size words promises) [] _ alignment b settings holdings front_sized place mid n bytes room (λ history h. words_are) count put;
      whole = sym front_ends;
      kept = none_to_come;
    }

module _ (root : ℕ) (identifier : Option (List ℕ)) (alignment : ℕ) (b : Backed) (settings : CacheSettings) (holdings : Holdings)
    (greatest : (promises : List Promise) → DescribedBy b promises → greatest_alignment 4 promises ≡ alignment)
    (word : List ℕ) (place : ℕ) (mid n : Backed)
    (all : (promises : List Promise) → DescribedBy b promises → greatest_alignment 1 promises ≤ alignment)
    (some : (promises : List Promise) × DescribedBy b promises) where
  pub finishes : (a : Backed) → MakesRoom (length (identifier_bytes identifier) + 4) alignment b place mid
      → PutsBytes (identifier_bytes identifier) mid a → PutsBytes word a n → word ≡ to_le_bytes w32 (place - root)
      → Finishes root identifier (state_from b settings holdings) place (state_from n settings holdings)
  finishes a room name_put word_put word_is =
      puts_in_front (length (identifier_bytes identifier) + 4) (root_words root identifier) alignment b settings holdings greatest
      (word ++ identifier_bytes identifier) place mid n room (both_put word (identifier_bytes identifier) mid a n name_put word_put)
      (rw word_is refl) (rw word_is (simp length-append (omega arith))) all some

  pub sized_finishes : (size : List ℕ) → MakesRoom (length (identifier_bytes identifier) + 8) alignment b place mid
      → PutsBytes (size ++ word ++ identifier_bytes identifier) mid n
      → size ≡ to_le_bytes w32 (place - 4) → word ≡ to_le_bytes w32 (place - 4 - root)
      → PutsInFront (sized_finish_entry root identifier) (state_from b settings holdings) place (state_from n settings holdings)
  sized_finishes size room put size_is word_is =
      puts_in_front (length (identifier_bytes identifier) + 8) (sized_words root identifier) alignment b settings holdings greatest
      (size ++ word ++ identifier_bytes identifier) place mid n room put
      (rw (size_is, word_is) refl)
      (rw (size_is, word_is, length-append (to_le_bytes w32 (place - 4 - root)) (identifier_bytes identifier)) (omega arith)) all some

abbrev pub shares_of : ContentsKind → Inside → Shares
shares_of texts a = a.texts
shares_of byte_lists a = a.byte_lists
shares_of vtables a = a.vtables

abbrev pub with_shares : ContentsKind → Inside → Backed → Shares → Inside
with_shares texts a n s = record a { backing = n; texts = s }
with_shares byte_lists a n s = record a { backing = n; byte_lists = s }
with_shares vtables a n s = record a { backing = n; vtables = s }

module _ (contents : List ℕ) (part : Part) (a : Inside) (mid : Backed) (s : Shares) where
  in_room : (kind : ContentsKind) (place : ℕ) (padded n : Backed) (bytes : List ℕ)
      → Finds (contents_in kind) (shares_of kind a) a.backing.bytes contents None → MakesRoom part.size part.alignment a.backing place padded
      → Keeps (contents_in kind) a.backing.bytes contents place (shares_of kind a) s
      → part.bytes_at place ≡ bytes → length bytes ≡ part.size → PutsBytes bytes padded n → contents_in kind n.bytes ≡ Some contents
      → AreKept kind contents part
      → PlacesEntry (shared_entry kind contents part) [] (state_of a) place (state_of (with_shares kind a n s))
  in_room texts place padded n bytes none room keeps bytes_are length_is put stands are_kept =
      subst (λ on. PlacesEntry (shared_entry texts contents part) [] (state_of a) place (state_from n (record (state_of a).settings { texts_on = on }) (record (state_of a).holdings { held_texts = s.holding }))) (sym keeps.on)
      (shared_down texts contents part [] a.backing (state_of a).settings (state_of a).holdings place padded n s.holding bytes none room keeps.holding bytes_are length_is put
      (at_its_place bytes_in n.bytes place contents (new_length part.size part.alignment place a.backing padded n bytes room length_is put) stands)
      are_kept)
  in_room byte_lists place padded n bytes none room keeps bytes_are length_is put stands are_kept =
      subst (λ on. PlacesEntry (shared_entry byte_lists contents part) [] (state_of a) place (state_from n (record (state_of a).settings { byte_lists_on = on }) (record (state_of a).holdings { held_byte_lists = s.holding }))) (sym keeps.on)
      (shared_down byte_lists contents part [] a.backing (state_of a).settings (state_of a).holdings place padded n s.holding bytes none room keeps.holding bytes_are length_is put
      (at_its_place bytes_in n.bytes place contents (new_length part.size part.alignment place a.backing padded n bytes room length_is put) stands)
      are_kept)
  in_room vtables place padded n bytes none room keeps bytes_are length_is put stands are_kept =
      subst (λ on. PlacesEntry (shared_entry vtables contents part) [] (state_of a) place (state_from n (record (state_of a).settings { vtables_on = on }) (record (state_of a).holdings { held_vtables = s.holding }))) (sym keeps.on)
      (shared_down vtables contents part [] a.backing (state_of a).settings (state_of a).holdings place padded n s.holding bytes none room keeps.holding bytes_are length_is put
      (at_its_place vtable_in n.bytes place contents (new_length part.size part.alignment place a.backing padded n bytes room length_is put) stands)
      are_kept)

  pub begun : (kind : ContentsKind) (plan : Plan) (padded n : Backed) (bytes : List ℕ)
      → FindsOrPlans (contents_in kind) contents part.size part.alignment a.backing (shares_of kind a) (Ok (Planned plan)) mid s → Pads plan mid padded
      → part.bytes_at plan.place ≡ bytes → length bytes ≡ part.size → PutsBytes bytes padded n → contents_in kind n.bytes ≡ Some contents
      → AreKept kind contents part
      → PlacesEntry (shared_entry kind contents part) [] (state_of a) plan.place (state_of (with_shares kind a n s))
  begun kind plan padded n bytes h pads bytes_are length_is put stands are_kept =
      in_room kind plan.place padded n bytes h.0 (makes_room part.size part.alignment a.backing mid padded plan h.1.0 h.1.1 pads) h.1.2 bytes_are length_is put stands are_kept

  pub found_again : (kind : ContentsKind) (distance : ℕ) → FindsOrPlans (contents_in kind) contents part.size part.alignment a.backing (shares_of kind a) (Ok (Found distance)) mid s
      → PlacesEntry (shared_entry kind contents part) [] (state_of a) distance (state_of (with_shares kind a mid s))
  found_again texts distance h =
      rw (h.1, h.2) (shared_found texts contents part [] a.backing (state_of a).settings (state_of a).holdings distance h.0 h.3)
  found_again byte_lists distance h =
      rw (h.1, h.2) (shared_found byte_lists contents part [] a.backing (state_of a).settings (state_of a).holdings distance h.0 h.3)
  found_again vtables distance h =
      rw (h.1, h.2) (shared_found vtables contents part [] a.backing (state_of a).settings (state_of a).holdings distance h.0 h.3)

  pub not_begun : (kind : ContentsKind) (error : BuildError) → FindsOrPlans (contents_in kind) contents part.size part.alignment a.backing (shares_of kind a) (Err error) mid s
      → Refuses (shared_entry kind contents part) [] (state_of a) error (state_of (with_shares kind a mid s))
  not_begun texts error h =
      rw h.1.1 (shared_refused texts contents part [] a.backing (state_of a).settings (state_of a).holdings error mid h.0 h.1.0)
  not_begun byte_lists error h =
      rw h.1.1 (shared_refused byte_lists contents part [] a.backing (state_of a).settings (state_of a).holdings error mid h.0 h.1.0)
  not_begun vtables error h =
      rw h.1.1 (shared_refused vtables contents part [] a.backing (state_of a).settings (state_of a).holdings error mid h.0 h.1.0)

pub still_sound : (entry : Entry) (got : List ℕ) (old new : State) (distance : ℕ) → (history : History) × IsHistoryOf old history → PlacesEntry entry got old distance new → (history : History) × IsHistoryOf new history
still_sound entry got old new distance sound put = let after = put.puts sound.0 sound.1 in (after.0, after.2)

pub left_sound : (entry : Entry) (got : List ℕ) (old new : State) (error : BuildError) → (history : History) × IsHistoryOf old history → Refuses entry got old error new → (history : History) × IsHistoryOf new history
left_sound entry got old new error sound refused =
    let after = (left_grows error (shared_as old.settings entry.contents) old new refused.unchanged).history sound.0 sound.1 in (after.0, after.1)

pub nothing_written : (b : Backed) (settings : CacheSettings) (holdings : Holdings) → b.bytes ≡ [] → DescribedBy b []
    → HoldsNothing holdings.held_texts → HoldsNothing holdings.held_byte_lists → HoldsNothing holdings.held_vtables → IsHistoryOf (state_from b settings holdings) no_history
nothing_written b settings holdings bytes described none_of_texts none_of_lists none_of_vtables = record { bytes = sym bytes; described = described; cached = of_kind; kept = tt }
  where
    of_kind : (kind : ContentsKind) → FindsCached (state_from b settings holdings) [] kind
    of_kind texts = finds_nothing (state_from b settings holdings) texts none_of_texts
    of_kind byte_lists = finds_nothing (state_from b settings holdings) byte_lists none_of_lists
    of_kind vtables = finds_nothing (state_from b settings holdings) vtables none_of_vtables
