-- Strings, step by step.
use Rattle.std.proofs.Common.{◌≡◌, ℕ, zero, suc, ◌+◌, ◌-◌, ◌<◌, ◌≤◌, List, [], ◌∷◌, ◌++◌, length, true, false, Bool, refl, sym, ap, ◌∙◌, add-one, arith, Ok, Err, IsUtf8}
use Rattle.std.specs.Prelude.{◌==◌}
use Rattle.std.specs.Str.{is_utf8}
use Rattle.std.specs.Char.{encode_utf8}
use Rattle.std.proofs.lemmas.Str.{IsUtf8-from_is_utf8, is_utf8-from_IsUtf8}
use Rattle.planus_json_syntax.specs.declared.fault_kind.FaultKind.{FaultKind}
use Rattle.planus_json_syntax.specs.declared.fault_kind.FaultKind.TheVariants.{OpenString, Control, NotUtf8}
use Rattle.planus_json_syntax.specs.Strings.{Content, closed, escaped, string_step, string_from, escape_at, string_at}

-- a string that said this so far is read as this, in some number of steps
pub record GoesOn (said rest : List ℕ) (content : Content) : Type 0 where
  pub steps : ℕ
  pub enough : length rest < steps
  pub reads : string_from steps said rest ≡ content

pub closed_ok : (said rest : List ℕ) → IsUtf8 said → closed said rest ≡ Ok (said, rest)
closed_ok said rest u = rw (is_utf8-from_IsUtf8 said u) refl

not_true : (b : Bool) → (b ≡ true → ⊥) → b ≡ false
not_true true h = absurd (h refl)
not_true false h = refl

pub closed_err : (said rest : List ℕ) → (IsUtf8 said → ⊥) → closed said rest ≡ Err (NotUtf8, length rest + 1)
closed_err said rest never = rw (add-one, not_true (is_utf8 said) (λ e. never (IsUtf8-from_is_utf8 said e))) refl

step_is : (n : ℕ) (said rest : List ℕ) → length rest < n → string_from n said rest ≡ string_step (string_from (n - 1)) said rest
unfolding string_from
step_is zero said rest h = absurd (omega arith)
step_is (suc n) said rest h =
    let e : suc n - 1 ≡ n = omega arith in
    rw e refl

-- the whole string is what the next step gives
pub next_step : (said rest : List ℕ) (content : Content) (on : GoesOn said rest content) → string_step (string_from (on.steps - 1)) said rest ≡ content
next_step said rest content on = sym (step_is on.steps said rest on.enough) ∙ on.reads

pub begins : (bytes : List ℕ) → GoesOn [] bytes (string_at bytes)
begins bytes = record { steps = suc (length bytes); enough = omega arith; reads = refl }

pub at_quote : (said rest after : List ℕ) (content : Content) → GoesOn said rest content → rest ≡ 34 ∷ after → closed said after ≡ content
at_quote said rest after content on e = rw e at (next_step said rest content on)

pub no_bytes : (bytes : List ℕ) → length bytes ≡ 0 → bytes ≡ []
no_bytes [] h = refl
no_bytes (b ∷ bs) h = absurd (omega arith)

pub at_end : (said rest : List ℕ) (content : Content) → GoesOn said rest content → length rest ≡ 0 → content ≡ Err (OpenString, 0)
at_end said rest content on e = sym (rw (no_bytes rest e) at (next_step said rest content on))

pub at_last : (said rest after : List ℕ) (b : ℕ) (content : Content) → GoesOn said rest content → rest ≡ b ∷ after → b ≡ 92 → length after ≡ 0 → content ≡ Err (OpenString, 0)
at_last said rest after b content on e is f =
    let none = no_bytes after f in
    let whole : rest ≡ 92 ∷ [] = cc in
    sym (rw whole at (next_step said rest content on))

pub at_control : (said rest after : List ℕ) (b : ℕ) (content : Content) → GoesOn said rest content → rest ≡ b ∷ after → b < 32 → content ≡ Err (Control, length rest)
at_control said rest after b content on e small = grind (arith, next_step said rest content on)

pub at_plain : (said rest after : List ℕ) (b : ℕ) (content : Content) → GoesOn said rest content → rest ≡ b ∷ after → (b == 34) ≡ false → (b == 92) ≡ false → 32 ≤ b → GoesOn (said ++ b ∷ []) after content
at_plain said rest after b content on e quote slash plain = record {
  steps = on.steps - 1;
  enough = omega (arith, ap length e, on.enough);
  reads = grind (arith, next_step said rest content on);
}

pub at_escape : (said rest after bytes next : List ℕ) (b letter code : ℕ) (content : Content) → GoesOn said rest content → rest ≡ b ∷ after → b ≡ 92 → after ≡ letter ∷ bytes
    → escape_at letter bytes ≡ Ok (code, next) → length next ≤ length bytes → GoesOn (said ++ encode_utf8 code) next content
at_escape said rest after bytes next b letter code content on e is f reads fewer =
    let whole : rest ≡ 92 ∷ letter ∷ bytes = cc in
    record {
      steps = on.steps - 1;
      enough = omega (arith, ap length whole, on.enough);
      reads = ap (escaped (string_from (on.steps - 1)) said (suc (suc (length bytes)))) (sym reads) ∙ rw whole at (next_step said rest content on);
    }

pub at_fault : (said rest after bytes : List ℕ) (b letter : ℕ) (kind : FaultKind) (content : Content) → GoesOn said rest content → rest ≡ b ∷ after → b ≡ 92 → after ≡ letter ∷ bytes
    → escape_at letter bytes ≡ Err kind → content ≡ Err (kind, length rest)
at_fault said rest after bytes b letter kind content on e is f reads =
    let whole : rest ≡ 92 ∷ letter ∷ bytes = cc in
    sym (rw whole at (next_step said rest content on)) ∙ ap (escaped (string_from (on.steps - 1)) said (suc (suc (length bytes)))) reads ∙ ap (λ n. Err (kind, n)) (sym (ap length whole))
