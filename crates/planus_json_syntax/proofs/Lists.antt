-- Lists and objects, item by item.
use Rattle.std.proofs.Common.{◌≡◌, ℕ, zero, suc, ◌-◌, ◌<◌, List, [], ◌∷◌, ◌++◌, length, true, false, Bool, refl, sym, ◌∙◌, arith, Result, Ok, Err, Some, None}
use Rattle.std.specs.Prelude.{if◌then◌else◌}
use Rattle.planus_json_syntax.specs.declared.fault_kind.FaultKind.{FaultKind}
use Rattle.planus_json_syntax.specs.declared.read_error.ReadError.{ReadError}
use Rattle.planus_json_syntax.specs.declared.read_error.ReadError.TheVariants.{OutOfMemory, Fault as Fault'}
use Rattle.planus_json_syntax.specs.Strings.{Fault}
use Rattle.planus_json_syntax.specs.Tokens.{◌>>=◌, Front, next}
use Rattle.planus_json_syntax.specs.Values.{JsonV}
use Rattle.planus_json_syntax.specs.Reading.{Item, Reads, is_mark_of, front_or, end_at, items_from, items_step, more_of, values_from, values_step, value_at, Values}
use Rattle.planus_json_syntax.specs.Steps.{Fails}

-- items are read as this after what was found, in some number of steps
pub record MoreItems {A : Type 0} (item : Item A) (close : ℕ) (missing kind : FaultKind)
    (found : List A) (rest : List ℕ) (all : Reads (List A)) : Type 0 where
  pub steps : ℕ
  pub enough : length rest < steps
  pub reads : items_from item close missing kind steps found rest ≡ all

-- values are read as this after what was found, in some number of steps
pub record MoreValues (len : ℕ) (found : List JsonV) (rest : List ℕ)
    (all : Result (List JsonV) Fault) : Type 0 where
  pub steps : ℕ
  pub enough : length rest < steps
  pub reads : values_from len steps found rest ≡ all

-- an error is that of the whole, if a fault is
pub same_error : {Y Y' : Type 0} (error : ReadError) (part : Result Y Fault) (whole : Result Y' Fault)
    → ((e : Fault) → part ≡ Err e → whole ≡ Err e) → Fails error part → Fails error whole
same_error OutOfMemory part whole h g = g
same_error (Fault' kind left) part whole h g = h (kind, left) g

module _ {A : Type 0} (item : Item A) (close : ℕ) (missing kind : FaultKind) where
  step_is : (n : ℕ) (found : List A) (rest : List ℕ) → length rest < n
      → items_from item close missing kind n found rest ≡ items_step item close missing kind (items_from item close missing kind (n - 1)) found rest
  unfolding items_from
  step_is zero found rest h = absurd (omega arith)
  step_is (suc n) found rest h =
      let e : suc n - 1 ≡ n = omega arith in
      rw e refl

  abbrev pub More : List A → List ℕ → Reads (List A) → Type 0
  More found rest all = MoreItems item close missing kind found rest all

  module _ (found : List A) (rest : List ℕ) (all : Reads (List A)) (more : More found rest all) where
    abbrev others : List A → List ℕ → Reads (List A)
    others = items_from item close missing kind (more.steps - 1)

    abbrev after_end : List A → Reads Bool → Reads (List A)
    after_end found' end = end >>= more_of item close missing kind others found'

    abbrev after_item : Reads A → Reads (List A)
    after_item read = read >>= λ x. after_end (found ++ x.0 ∷ []) (end_at close kind x.1)

    abbrev after_front : Result Front Fault → Reads (List A)
    after_front read = read >>= λ front. if is_mark_of close front.token then Ok (found, front.rest) else after_item (item front)

    first : after_front (front_or missing rest) ≡ all
    first = sym (step_is more.steps found rest more.enough) ∙ more.reads

    pub no_front : (e : Fault) → front_or missing rest ≡ Err e → all ≡ Err e
    no_front e h = sym (rw h at first)

    pub ends_at_once : (front : Front) → front_or missing rest ≡ Ok front → is_mark_of close front.token ≡ true → all ≡ Ok (found, front.rest)
    ends_at_once front h closes = sym (rw (h, closes) at first)

    module _ (front : Front) (here : front_or missing rest ≡ Ok front) (goes : is_mark_of close front.token ≡ false) where
      second : after_item (item front) ≡ all
      second = rw (here, goes) at first

      pub no_item : (e : Fault) → item front ≡ Err e → all ≡ Err e
      no_item e h = sym (rw h at second)

      module _ (x : A) (after : List ℕ) (read : item front ≡ Ok (x, after)) where
        third : after_end (found ++ x ∷ []) (end_at close kind after) ≡ all
        third = rw read at second

        pub no_end : (e : Fault) → end_at close kind after ≡ Err e → all ≡ Err e
        no_end e h = sym (rw h at third)

        pub ends : (last : List ℕ) → end_at close kind after ≡ Ok (true, last) → all ≡ Ok (found ++ x ∷ [], last)
        ends last h = sym (rw h at third)

        pub goes_on : (last : List ℕ) → end_at close kind after ≡ Ok (false, last) → length last < length rest → More (found ++ x ∷ []) last all
        goes_on last h shorter = record {
          steps = more.steps - 1;
          enough = omega (arith, more.enough);
          reads = rw h at third;
        }

-- ---- the values of a text

module _ (len : ℕ) where
  values_is : (n : ℕ) (found : List JsonV) (rest : List ℕ) → length rest < n
      → values_from len n found rest ≡ (next rest >>= values_step len (values_from len (n - 1)) found)
  unfolding values_from
  values_is zero found rest h = absurd (omega arith)
  values_is (suc n) found rest h =
      let e : suc n - 1 ≡ n = omega arith in
      rw e refl

  module _ (found : List JsonV) (rest : List ℕ) (all : Values len) (more : MoreValues len found rest all) where
    front : (next rest >>= values_step len (values_from len (more.steps - 1)) found) ≡ all
    front = sym (values_is more.steps found rest more.enough) ∙ more.reads

    pub no_next : (e : Fault) → next rest ≡ Err e → all ≡ Err e
    no_next e h = sym (rw h at front)

    pub at_text_end : next rest ≡ Ok None → all ≡ Ok found
    at_text_end h = sym (rw h at front)

    module _ (first' : Front) (here : next rest ≡ Ok (Some first')) where
      value_first : (value_at len 256 first' >>= λ x. values_from len (more.steps - 1) (found ++ x.0 ∷ []) x.1) ≡ all
      value_first = rw here at front

      pub no_value : (e : Fault) → value_at len 256 first' ≡ Err e → all ≡ Err e
      no_value e h = sym (rw h at value_first)

      pub next_value : (x : JsonV) (after : List ℕ) → value_at len 256 first' ≡ Ok (x, after) → length after < length rest → MoreValues len (found ++ x ∷ []) after all
      next_value x after h shorter = record {
        steps = more.steps - 1;
        enough = omega (arith, more.enough);
        reads = rw h at value_first;
      }
