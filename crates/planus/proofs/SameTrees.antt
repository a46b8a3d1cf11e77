-- Two runs of the same steps have the same trees.
use Rattle.std.proofs.Common.{◌≡◌, ℕ, ◌+◌, List, [], ◌∷◌, ◌++◌, length, map, refl, sym, ap, ◌∙◌, subst}
use Rattle.std.proofs.Common.{Option, Some, None, Bool, true, false, append_assoc, append-nil, take}
use Rattle.std.specs.Prelude.{slice_get, if◌then◌else◌}
use Rattle.std.specs.List.{AllByRecursion, list_all}
use Rattle.std.specs.Int.{Width, byte_len, to_le_bytes}
use Rattle.std.specs.Option.{option_map}
use Rattle.std.proofs.lemmas.List.{map_push}
use Rattle.std.proofs.Math.Seq.{take-append_seam}
use Rattle.std.proofs.Common.{length-append}
use Rattle.planus_read.specs.Values as value
use Rattle.planus_read.specs.Values.{Plain, Value, Field}
use Rattle.planus_read.specs.Stands.{ReferenceStands}
use Rattle.planus_write.specs.Shared.{CacheSettings}
use Rattle.planus_write.specs.History.{History, Adds, PutsAll}
use Rattle.planus_write.specs.Parts.{Named, named_by, entries_of, finish_part, sized_finish_part}
use Rattle.planus_write.specs.lemmas.StandingLaws.{finishes_lead, sized_finishes_stand}
use Rattle.planus.specs.Steps.{Step, text, bytes, numbers, refs, unions, struct, plains, table, finish, clear}
use Rattle.planus.specs.Steps.{Front, root_first, size_first}
use Rattle.planus.specs.FinishHolds.{root_at}
use Rattle.planus.specs.Steps.{FieldStep, number_field, struct_field, ref_field, tags_field}
use Rattle.planus.specs.Steps.{values_field}
use Rattle.planus.specs.Slots.{greatest_field, place_fault, alignment_of}
use Rattle.planus.specs.Runs.{Listed, RunState, cleared, Writes, Advances, LeadsTo, nothing_written, value_of}
use Rattle.planus.specs.Runs.{value_at, distance_at, value_distance, tags_distance, references_distance}
use Rattle.planus.specs.Runs.{union_of, all_of, width_of, fits_width, numbers_value, field_width, plain_field}
use Rattle.planus.specs.Runs.{field_of, fields_of, values_added, finishes_added, finish_of}
use Rattle.planus.specs.Runs.{struct_width, struct_of, table_of}
use Rattle.planus.specs.SameTrees.{AllPairs, LeadToOneStep, SameField, SameEntry, SameUnion, SameValue}
use Rattle.planus.specs.SameTrees.{SamePlace, SameTrees, TreesAreTheSame}
use Rattle.planus.proofs.Kept.{Kept, ValueKept, root_behind, step_kept, nothing_kept}
use Rattle.planus.proofs.Lists.{made_of, all_made, union_made, get_last}
use Rattle.planus.proofs.Structs.{plains_made}
use Rattle.planus.proofs.TableFields.{table_made, fields_made}

one_result : {X : Type 0} (o : Option X) (x y : X) → o ≡ Some x → o ≡ Some y → x ≡ y
one_result {X} o x y e f = (let g : Some x ≡ Some y = sym e ∙ f in cc)

all_pairs : {X Y Z : Type 0} (f : X → Option Y) (g : X → Option Z) (R : Y → Z → Type 0) → ((x : X) (y : Y) (z : Z) → f x ≡ Some y → g x ≡ Some z → R y z)
    → (xs : List X) (ys : List Y) (zs : List Z) → all_of f xs ≡ Some ys → all_of g xs ≡ Some zs → AllPairs R ys zs
all_pairs {Y = Y} {Z = Z} f g R related [] ys zs e h =
    let none : [] ≡ ys = cc in
    let no_other : [] ≡ zs = cc in
    subst (λ (bs : List Z). AllPairs R ys bs) no_other (subst (λ (some : List Y). AllPairs R some []) none tt)
all_pairs {Y = Y} {Z = Z} f g R related (x ∷ xs) ys zs e h =
    let one = all_made (f x) (all_of f xs) ys e in
    let other = all_made (g x) (all_of g xs) zs h in
    subst (λ (bs : List Z). AllPairs R ys bs) other.4 (subst (λ (some : List Y). AllPairs R some (other.0 ∷ other.1)) one.4
    (related x one.0 other.0 one.2 other.2, all_pairs f g R related xs one.1 other.1 one.3 other.3))

pairs_push : {X Y : Type 0} (R : X → Y → Type 0) (xs : List X) (ys : List Y) (x : X) (y : Y) → AllPairs R xs ys → R x y → AllPairs R (xs ++ x ∷ []) (ys ++ y ∷ [])
pairs_push R [] [] x y h new = (new, tt)
pairs_push R (a ∷ xs) (b ∷ ys) x y h new = (h.0, pairs_push R xs ys x y h.1 new)
pairs_push R [] (b ∷ ys) x y h new = absurd h
pairs_push R (a ∷ xs) [] x y h new = absurd h

module _ (ones others : List Listed) where
  abbrev SameDistance : (Named → Option ℕ) → ℕ → ℕ → Type 0
  SameDistance which d e = LeadToOneStep which ones others d e

  numbers_same : (width : Option Width) (items : List ℕ) (v w : Value) → numbers_value width items ≡ Some v → numbers_value width items ≡ Some w → SameValue ones others v w
  numbers_same None items v w e f = (cc)
  numbers_same (Some width) items v w e f = by_test (list_all (fits_width width) items) e f
    where
      list : Value
      list = value.plain_list (byte_len width) (byte_len width) (map (to_le_bytes width) items)

      by_test : (fit : Bool) → (if fit then Some list else None) ≡ Some v → (if fit then Some list else None) ≡ Some w → SameValue ones others v w
      by_test true e f =
          let one : list ≡ v = cc in
          let other : list ≡ w = cc in
          subst (λ w. SameValue ones others v w) other (subst (λ v. SameValue ones others v list) one (refl, refl, refl))
      by_test false e f = (cc)

  item_same : (leading : Plain → Value) → ((item : Plain) → SameValue ones others (leading item) (leading item)) → (made : Option Plain) (v w : Value)
      → option_map leading made ≡ Some v → option_map leading made ≡ Some w → SameValue ones others v w
  item_same leading same None v w e f = (cc)
  item_same leading same (Some item) v w e f =
      let one : leading item ≡ v = cc in
      let other : leading item ≡ w = cc in
      subst (λ w. SameValue ones others v w) other (subst (λ v. SameValue ones others v (leading item)) one (same item))

  union_same : (item union other : ℕ × ℕ) → union_of ones item ≡ Some union → union_of others item ≡ Some other → SameUnion ones others union other
  union_same item union other e f =
      let one = union_made ones item union e in
      let two = union_made others item other f in
      subst (λ o. SameUnion ones others union o) two.3 (subst (λ u. SameUnion ones others u (item.0, two.0)) one.3 (refl, (item.1, one.2, two.2)))

  leads_same : (leading : ℕ → Field) (which : Named → Option ℕ) → ((d e : ℕ) → SameDistance which d e → SameField ones others (leading d) (leading e))
      → (step : ℕ) (field other : Field) → option_map leading (distance_at which ones step) ≡ Some field → option_map leading (distance_at which others step) ≡ Some other
      → SameField ones others field other
  leads_same leading which same step field other e f =
      let one = made_of leading (distance_at which ones step) field e in
      let two = made_of leading (distance_at which others step) other f in
      subst (λ o. SameField ones others field o) two.2 (subst (λ u. SameField ones others u (leading two.0)) one.2 (same one.0 two.0 (step, one.1, two.1)))

  number_same : (width : Option Width) (n : ℕ) (field other : Field) → plain_field width n ≡ Some field → plain_field width n ≡ Some other → SameField ones others field other
  number_same None n field other e f = (cc)
  number_same (Some width) n field other e f = by_test (fits_width width n) e f
    where
      number : Field
      number = value.plain (record { bytes = to_le_bytes width n; alignment = byte_len width })

      by_test : (fit : Bool) → (if fit then Some number else None) ≡ Some field → (if fit then Some number else None) ≡ Some other → SameField ones others field other
      by_test true e f =
          let one : number ≡ field = cc in
          let two : number ≡ other = cc in
          subst (λ o. SameField ones others field o) two (subst (λ u. SameField ones others u number) one refl)
      by_test false e f = (cc)

  item_field_same : (made : Option Plain) (field other : Field) → option_map value.plain made ≡ Some field → option_map value.plain made ≡ Some other → SameField ones others field other
  item_field_same None field other e f = (cc)
  item_field_same (Some item) field other e f =
      let one : value.plain item ≡ field = cc in
      let two : value.plain item ≡ other = cc in
      subst (λ o. SameField ones others field o) two (subst (λ u. SameField ones others u (value.plain item)) one refl)

  field_same : (content : FieldStep) (field other : Field) → field_of ones content ≡ Some field → field_of others content ≡ Some other → SameField ones others field other
  field_same (number_field width n) field other e f = number_same (field_width width) n field other e f
  field_same (struct_field alignment content) field other e f = item_field_same (struct_of (struct_width alignment) content) field other e f
  field_same (ref_field step) field other e f = leads_same value.reference value_distance (λ d e same. same) step field other e f
  field_same (tags_field step) field other e f = leads_same value.tags tags_distance (λ d e same. same) step field other e f
  field_same (values_field step) field other e f = leads_same value.values references_distance (λ d e same. same) step field other e f

  fields_same : (slots : List ℕ) (before : ℕ) (fields : List (ℕ × FieldStep)) (all more : List (ℕ × Field)) → fields_of ones slots before fields ≡ Some all
      → fields_of others slots before fields ≡ Some more → AllPairs (SameEntry ones others) all more
  fields_same slots before [] all more e f =
      let none : [] ≡ all = cc in
      let no_other : [] ≡ more = cc in
      subst (λ bs. AllPairs (SameEntry ones others) all bs) no_other (subst (λ some. AllPairs (SameEntry ones others) some []) none tt)
  fields_same slots before (entry ∷ fields) all more e f =
      let one = fields_made entry.0 (place_fault slots before entry) (field_of ones entry.1) (fields_of ones (slots ++ entry.0 ∷ []) (alignment_of entry.1) fields) all e in
      let two = fields_made entry.0 (place_fault slots before entry) (field_of others entry.1) (fields_of others (slots ++ entry.0 ∷ []) (alignment_of entry.1) fields) more f in
      subst (λ bs. AllPairs (SameEntry ones others) all bs) two.5 (subst (λ some. AllPairs (SameEntry ones others) some ((entry.0, two.1) ∷ two.3)) one.5
      ((refl, field_same entry.1 one.1 two.1 one.2 two.2), fields_same (slots ++ entry.0 ∷ []) (alignment_of entry.1) fields one.3 two.3 one.4 two.4))

  value_same : (step : Step) (v w : Value) → value_of ones step ≡ Some v → value_of others step ≡ Some w → SameValue ones others v w
  value_same (text content) v w e f =
      let one : value.text content ≡ v = cc in
      let other : value.text content ≡ w = cc in
      subst (λ w. SameValue ones others v w) other (subst (λ v. SameValue ones others v (value.text content)) one refl)
  value_same (bytes content) v w e f =
      let one : value.byte_list content ≡ v = cc in
      let other : value.byte_list content ≡ w = cc in
      subst (λ w. SameValue ones others v w) other (subst (λ v. SameValue ones others v (value.byte_list content)) one refl)
  value_same (numbers width items) v w e f = numbers_same (width_of width) items v w e f
  value_same (refs steps) v w e f =
      let one = made_of value.reference_list (all_of (value_at ones) steps) v e in
      let other = made_of value.reference_list (all_of (value_at others) steps) w f in
      subst (λ w. SameValue ones others v w) other.2 (subst (λ v. SameValue ones others v (value.reference_list other.0)) one.2
      (all_pairs (value_at ones) (value_at others) (SameDistance value_distance) (λ step d e is also. (step, is, also)) steps one.0 other.0 one.1 other.1))
  value_same (unions items) v w e f =
      let one = made_of value.union_vector (all_of (union_of ones) items) v e in
      let other = made_of value.union_vector (all_of (union_of others) items) w f in
      subst (λ w. SameValue ones others v w) other.2 (subst (λ v. SameValue ones others v (value.union_vector other.0)) one.2
      (all_pairs (union_of ones) (union_of others) (SameUnion ones others) union_same items one.0 other.0 one.1 other.1))
  value_same (struct alignment content) v w e f = item_same value.apart (λ item. refl) (struct_of (struct_width alignment) content) v w e f
  value_same (plains alignment size content) v w e f =
      let made = plains_made (struct_width alignment) size content v e in
      let same : v ≡ w = (let both : Some v ≡ Some w = sym e ∙ f in cc) in
      subst (λ w. SameValue ones others v w) same (subst (λ u. SameValue ones others u u) made.same (refl, refl, refl))
  value_same (table fields) v w e f =
      let one = made_of value.table (table_of ones fields) v e in
      let other = made_of value.table (table_of others fields) w f in
      let one_all = table_made ones fields one.0 one.1 in
      let other_all = table_made others fields other.0 other.1 in
      subst (λ w. SameValue ones others v w) other.2 (subst (λ v. SameValue ones others v (value.table other.0)) one.2
      (fields_same [] greatest_field fields one.0 other.0 one_all.1 other_all.1))
  value_same (finish front root identifier) v w e f = (cc)
  value_same clear v w e f = (cc)

abbrev steps_in : List Listed → List ℕ
steps_in listed = map (λ one. one.step) listed

module _ (all done : List Step) (history other_history : History) (ones others : List Listed) where
  place_same : (one other : Listed) → one.step ≡ other.step → ValueKept all done history ones one → ValueKept all done other_history others other → SamePlace all ones others one other
  place_same one other same v w =
      let again : slice_get all one.step ≡ Some w.step = ap (slice_get all) same ∙ w.there in
      let step : w.step ≡ v.step = one_result (slice_get all one.step) w.step v.step again v.there in
      let is_other : value_of others v.step ≡ Some w.value = ap (value_of others) (sym step) ∙ w.is_value in
      record {
        same_step = same;
        step = v.step;
        there = v.there;
        value = v.value;
        is_value = v.is_value;
        other_value = w.value;
        is_other = is_other;
        same = value_same ones others v.step v.value w.value v.is_value is_other;
      }

  places_same : (xs ys : List Listed) → steps_in xs ≡ steps_in ys → AllByRecursion (ValueKept all done history ones) xs → AllByRecursion (ValueKept all done other_history others) ys
      → AllPairs (SamePlace all ones others) xs ys
  places_same [] [] same h k = tt
  places_same (x ∷ xs) (y ∷ ys) same h k =
      let first : x.step ≡ y.step = cc in
      let rest : steps_in xs ≡ steps_in ys = cc in
      (place_same x y first h.0 k.0, places_same xs ys rest h.1 k.1)
  places_same [] (y ∷ ys) same h k = (cc)
  places_same (x ∷ xs) [] same h k = (cc)

-- Both runs are at the same step, list the same steps, and gave the same trees.
record Alike (all : List Step) (one other : RunState) : Type 0 where
  pub next : one.next ≡ other.next
  pub listed : steps_in one.listed ≡ steps_in other.listed
  pub finished : AllPairs (SameTrees all) one.finished other.finished

module _ (settings others : CacheSettings) (all done : List Step) (a b : RunState) (h : Kept settings all done a) (k : Kept others all done b) (alike : Alike all a b) where
  value_alike : (step : Step) (c d : RunState) (x : Writes settings a step c) (y : Writes others b step d) → ((s : RunState) (history : History) → finishes_added step s history ≡ [])
      → option_map entries_of (value_of a.listed step) ≡ Some x.entries → option_map entries_of (value_of b.listed step) ≡ Some y.entries → Alike all c d
  value_alike step c d x y none are also =
      let v = made_of entries_of (value_of a.listed step) x.entries are in
      let w = made_of entries_of (value_of b.listed step) y.entries also in
      let listed : c.listed ≡ a.listed ++ record { step = a.next; named = named_by v.0 x.got } ∷ [] = x.listed ∙ ap (λ o. a.listed ++ values_added o a.next x.got) v.1 in
      let listed_too : d.listed ≡ b.listed ++ record { step = b.next; named = named_by w.0 y.got } ∷ [] = y.listed ∙ ap (λ o. b.listed ++ values_added o b.next y.got) w.1 in
      let finished : c.finished ≡ a.finished = x.finished ∙ ap (λ fs. a.finished ++ fs) (none a c.history) ∙ append-nil a.finished in
      let finished_too : d.finished ≡ b.finished = y.finished ∙ ap (λ fs. b.finished ++ fs) (none b d.history) ∙ append-nil b.finished in
      record {
        next = x.next ∙ ap (λ n. n + 1) alike.next ∙ sym y.next;
        listed = ap steps_in listed ∙ map_push (λ (one : Listed). one.step) a.listed (record { step = a.next; named = named_by v.0 x.got })
            ∙ ap (λ (ns : List ℕ). ns ++ a.next ∷ []) alike.listed ∙ ap (λ n. steps_in b.listed ++ n ∷ []) alike.next
            ∙ sym (map_push (λ (one : Listed). one.step) b.listed (record { step = b.next; named = named_by w.0 y.got })) ∙ sym (ap steps_in listed_too);
        finished = subst (λ fs. AllPairs (SameTrees all) fs d.finished) (sym finished) (subst (λ fs. AllPairs (SameTrees all) a.finished fs) (sym finished_too) alike.finished);
      }

  leads : (sw : CacheSettings) (s after : RunState) (front : Front) (root : ℕ) (identifier : Option (List ℕ)) → Kept sw all done s → (x : Writes sw s (finish front root identifier) after)
      → (to : ℕ) × (value_at s.listed root ≡ Some to) × ReferenceStands after.history.written.bytes (root_at front) to
  leads sw s after root_first root identifier kept x =
      let made = made_of (finish_of root_first identifier) (value_at s.listed root) x.entries x.are in
      let puts : PutsAll sw (finish_of root_first identifier made.0) [] s.history x.got after.history
      = subst (λ entries. PutsAll sw entries [] s.history x.got after.history) (sym made.2) x.puts in
      let adds : Adds (finish_part made.0 identifier s.history.written.promises) None s.history puts.0 after.history
      = subst (Adds (finish_part made.0 identifier s.history.written.promises) None s.history puts.0) (sym puts.3.1) puts.2 in
      (made.0, made.1, finishes_lead made.0 identifier s.history.written after.history.written (root_behind all done s root made.0 kept.values made.1) adds.placed)
  leads sw s after size_first root identifier kept x =
      let made = made_of (finish_of size_first identifier) (value_at s.listed root) x.entries x.are in
      let puts : PutsAll sw (finish_of size_first identifier made.0) [] s.history x.got after.history
      = subst (λ entries. PutsAll sw entries [] s.history x.got after.history) (sym made.2) x.puts in
      let adds : Adds (sized_finish_part made.0 identifier s.history.written.promises) None s.history puts.0 after.history
      = subst (Adds (sized_finish_part made.0 identifier s.history.written.promises) None s.history puts.0) (sym puts.3.1) puts.2 in
      (made.0, made.1, (sized_finishes_stand made.0 identifier s.history.written after.history.written adds.placed).leads (root_behind all done s root made.0 kept.values made.1))

  finish_alike : (front : Front) (root : ℕ) (identifier : Option (List ℕ)) (c d : RunState) → slice_get all (length done) ≡ Some (finish front root identifier)
      → Writes settings a (finish front root identifier) c → Writes others b (finish front root identifier) d → Alike all c d
  finish_alike front root identifier c d there x y =
      let one = leads settings a c front root identifier h x in
      let other = leads others b d front root identifier k y in
      let given : SameTrees all (record { bytes = c.history.written.bytes; places = a.listed }) (record { bytes = d.history.written.bytes; places = b.listed })
      = record {
        number = length done;
        front = front;
        root = root;
        identifier = identifier;
        step = there;
        distance = one.0;
        root_is = one.1;
        leads = one.2;
        other_distance = other.0;
        other_root_is = other.1;
        other_leads = other.2;
        places = places_same all done a.history b.history a.listed b.listed a.listed b.listed alike.listed h.values k.values;
      } in
      record {
        next = x.next ∙ ap (λ n. n + 1) alike.next ∙ sym y.next;
        listed = ap steps_in (x.listed ∙ append-nil a.listed) ∙ alike.listed ∙ sym (ap steps_in (y.listed ∙ append-nil b.listed));
        finished = subst (λ fs. AllPairs (SameTrees all) fs d.finished) (sym x.finished) (subst (λ fs. AllPairs (SameTrees all) (a.finished ++ record { bytes = c.history.written.bytes; places = a.listed } ∷ []) fs) (sym y.finished)
            (pairs_push (SameTrees all) a.finished b.finished (record { bytes = c.history.written.bytes; places = a.listed }) (record { bytes = d.history.written.bytes; places = b.listed }) alike.finished given));
      }

  step_alike : (step : Step) (c d : RunState) → slice_get all (length done) ≡ Some step → Advances settings a step c → Advances others b step d → Alike all c d
  step_alike (text content) c d there x y = value_alike (text content) c d x y (λ s history. refl) x.are y.are
  step_alike (bytes content) c d there x y = value_alike (bytes content) c d x y (λ s history. refl) x.are y.are
  step_alike (numbers width items) c d there x y = value_alike (numbers width items) c d x y (λ s history. refl) x.are y.are
  step_alike (refs steps) c d there x y = value_alike (refs steps) c d x y (λ s history. refl) x.are y.are
  step_alike (unions items) c d there x y = value_alike (unions items) c d x y (λ s history. refl) x.are y.are
  step_alike (struct alignment content) c d there x y = value_alike (struct alignment content) c d x y (λ s history. refl) x.are y.are
  step_alike (plains alignment size content) c d there x y = value_alike (plains alignment size content) c d x y (λ s history. refl) x.are y.are
  step_alike (table fields) c d there x y = value_alike (table fields) c d x y (λ s history. refl) x.are y.are
  step_alike (finish front root identifier) c d there x y = finish_alike front root identifier c d there x y
  step_alike clear c d there x y =
      subst (λ s. Alike all s d) (sym x) (subst (λ s. Alike all (cleared a) s) (sym y)
      (record { next = ap (λ n. n + 1) alike.next; listed = refl; finished = alike.finished }))

stay_alike : (settings others : CacheSettings) (all done rest : List Step) → all ≡ done ++ rest → (a b c d : RunState) → LeadsTo settings a rest c → LeadsTo others b rest d → Kept settings all done a → Kept others all done b
    → Alike all a b → Alike all c d
stay_alike settings others all done [] whole a b c d x y h k alike = subst (λ s. Alike all s d) (sym x) (subst (λ s. Alike all a s) (sym y) alike)
stay_alike settings others all done (step ∷ rest) whole a b c d x y h k alike =
    let there : slice_get all (length done) ≡ Some step = ap (λ xs. slice_get xs (length done)) whole ∙ get_last done step rest in
    let again : all ≡ (done ++ step ∷ []) ++ rest = whole ∙ sym (append_assoc done (step ∷ []) rest) in
    let count : length done + 1 ≡ length (done ++ step ∷ []) = sym (length-append done (step ∷ [])) in
    let up_to : take (length done + 1) all ≡ done ++ step ∷ [] = ap (take (length done + 1)) again ∙ ap (λ n. take n ((done ++ step ∷ []) ++ rest)) count ∙ take-append_seam (done ++ step ∷ []) rest in
    stay_alike settings others all (done ++ step ∷ []) rest again x.0 y.0 c d x.2 y.2
    (step_kept settings all done step a x.0 there up_to x.1 h) (step_kept others all done step b y.0 there up_to y.1 k)
    (step_alike settings others all done a b h k alike step x.0 y.0 there x.1 y.1)

pub trees_are_the_same : TreesAreTheSame
trees_are_the_same one other steps finished others x y =
    let alike = stay_alike one other steps [] steps refl nothing_written nothing_written x.0 y.0 x.1 y.1 (nothing_kept one steps) (nothing_kept other steps)
    (record { next = refl; listed = refl; finished = tt }) in
    subst (λ fs. AllPairs (SameTrees steps) fs others) (sym x.2) (subst (λ fs. AllPairs (SameTrees steps) x.0.finished fs) (sym y.2) alike.finished)
