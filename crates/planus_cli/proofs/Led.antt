-- A buffer of several, and what is written before it.
use Rattle.std.proofs.Common.{◌≡◌, ℕ, ◌+◌, List, [], ◌∷◌, ◌++◌, length, take, arith, length-append, length-take-le, true, false, refl, sym, ap, ◌∙◌, subst, inl, inr}
use Rattle.std.specs.Prelude.{Option, Result, Ok, Err, IfErr, MatchBool, max}
use Rattle.std.specs.Io.KnownBytes.{Appends, Keeps}
use Rattle.std.proofs.KnownBytes.{Keeps-refl}
use Rattle.planus_dump.specs.Writing.{WritesBeginning}
use Rattle.planus_cli.specs.declared.view.One.{One}
use Rattle.planus_cli.specs.declared.streams.CallError.{CallError}
use Rattle.planus_cli.specs.Buffers.{Look, LeadV, lead_of, limits_of, look_left, cut_one, header_text, ViewsOne, FailsOne, ViewsAfter, ViewsNext, FailsNext, ViewsSized, FailsSized, EndsCut}
use Rattle.planus_cli.specs.Viewing.{SplitsSized}

pub err_map : {T E : Type 0} (r : Result T E) (P Q : E → Type 0) → ((e : E) → P e → Q e) → IfErr r P → IfErr r Q
err_map (Ok x) P Q f h = tt
err_map (Err e) P Q f h = f e h

pub lead_failed : (look : Look) (header buffer : List ℕ) (error : CallError) (lead : LeadV) (before after unsaid : Option (List ℕ))
    → lead ≡ lead_of (limits_of look) header → WritesBeginning lead.text before after → FailsNext look header buffer error before after unsaid unsaid
lead_failed look header buffer error lead before after unsaid is begun =
    inl (subst (λ (l : LeadV). WritesBeginning l.text before after) is begun, Keeps-refl unsaid)

pub led_cut : (look : Look) (header buffer : List ℕ) (one : One) (lead : LeadV) (before between unsaid : Option (List ℕ))
    → lead ≡ lead_of (limits_of look) header → lead.is_cut ≡ true → Appends before between lead.text → one ≡ cut_one lead.left
    → ViewsNext look header buffer one before between unsaid unsaid
led_cut look header buffer one lead before between unsaid is cut led same = record {
  between = between;
  led = subst (λ (l : LeadV). Appends before between l.text) is led;
  viewed = subst (λ (l : LeadV). ViewsAfter look l buffer one between between unsaid unsaid) is
      (subst (λ b. MatchBool b ((one ≡ cut_one lead.left) × Keeps between between × Keeps unsaid unsaid) (ViewsOne (look_left look lead.left) buffer one between between unsaid unsaid)) (sym cut)
      (same, Keeps-refl between, Keeps-refl unsaid));
}

pub led_on : (look at : Look) (header buffer : List ℕ) (one : One) (lead : LeadV) (before between after unsaid said : Option (List ℕ))
    → lead ≡ lead_of (limits_of look) header → lead.is_cut ≡ false → Appends before between lead.text → at ≡ look_left look lead.left
    → ViewsOne at buffer one between after unsaid said → ViewsNext look header buffer one before after unsaid said
led_on look at header buffer one lead before between after unsaid said is cut led here views = record {
  between = between;
  led = subst (λ (l : LeadV). Appends before between l.text) is led;
  viewed = subst (λ (l : LeadV). ViewsAfter look l buffer one between after unsaid said) is
      (subst (λ b. MatchBool b ((one ≡ cut_one lead.left) × Keeps between after × Keeps unsaid said) (ViewsOne (look_left look lead.left) buffer one between after unsaid said)) (sym cut)
      (subst (λ (l : Look). ViewsOne l buffer one between after unsaid said) here views));
}

pub led_failed : (look at : Look) (header buffer : List ℕ) (error : CallError) (lead : LeadV) (before between after unsaid said : Option (List ℕ))
    → lead ≡ lead_of (limits_of look) header → lead.is_cut ≡ false → Appends before between lead.text → at ≡ look_left look lead.left
    → FailsOne at buffer error between after unsaid said → FailsNext look header buffer error before after unsaid said
led_failed look at header buffer error lead before between after unsaid said is cut led here fails = inr (
  between,
  subst (λ (l : LeadV). Appends before between l.text) is led,
  sym (ap (λ (l : LeadV). l.is_cut) is) ∙ cut,
  subst (λ (l : LeadV). FailsOne (look_left look l.left) buffer error between after unsaid said) is
      (subst (λ (l : Look). FailsOne l buffer error between after unsaid said) here fails),
)

-- nothing follows the first buffer, at which a limit was reached
pub first_cut : (look at : Look) (number place : ℕ) (buffer bytes rest : List ℕ) (one : One) (worst status : ℕ) (before after unsaid said : Option (List ℕ))
    → at ≡ look → SplitsSized bytes buffer rest → ViewsNext at (header_text (number + 1) (place + 4)) buffer one before after unsaid said
    → one.is_cut ≡ true → status ≡ max worst one.status
    → ViewsSized look number place (buffer ∷ []) bytes worst status before after unsaid said
first_cut look at number place buffer bytes rest one worst status before after unsaid said here split views cut is = record {
  rest = rest;
  one = one;
  written = after;
  said = said;
  split = split;
  first = subst (λ (l : Look). ViewsNext l (header_text (number + 1) (place + 4)) buffer one before after unsaid said) here views;
  follows = subst (λ b. MatchBool b (EndsCut [] (max worst one.status) status after after said said)
      (ViewsSized (look_left look one.left) (number + 1) (place + (4 + length buffer)) [] rest (max worst one.status) status after after said said)) (sym cut)
      (record { last = refl; is = is; kept = Keeps-refl after; unsaid_kept = Keeps-refl said });
}

-- what follows the first buffer
pub first_on : (look at : Look) (number place : ℕ) (buffer bytes rest : List ℕ) (buffers : List (List ℕ)) (one : One) (worst status : ℕ)
    (before between after unsaid told said : Option (List ℕ))
    → at ≡ look → SplitsSized bytes buffer rest → ViewsNext at (header_text (number + 1) (place + 4)) buffer one before between unsaid told
    → one.is_cut ≡ false
    → ViewsSized (look_left look one.left) (number + 1) (place + (4 + length buffer)) buffers rest (max worst one.status) status between after told said
    → ViewsSized look number place (buffer ∷ buffers) bytes worst status before after unsaid said
first_on look at number place buffer bytes rest buffers one worst status before between after unsaid told said here split views cut follows = record {
  rest = rest;
  one = one;
  written = between;
  said = told;
  split = split;
  first = subst (λ (l : Look). ViewsNext l (header_text (number + 1) (place + 4)) buffer one before between unsaid told) here views;
  follows = subst (λ b. MatchBool b (EndsCut buffers (max worst one.status) status between after told said)
      (ViewsSized (look_left look one.left) (number + 1) (place + (4 + length buffer)) buffers rest (max worst one.status) status between after told said)) (sym cut) follows;
}

pub first_then_failed : (look at : Look) (number place : ℕ) (buffer bytes rest : List ℕ) (buffers : List (List ℕ)) (one : One) (error : CallError)
    (before between after unsaid told said : Option (List ℕ))
    → at ≡ look → SplitsSized bytes buffer rest → ViewsNext at (header_text (number + 1) (place + 4)) buffer one before between unsaid told
    → one.is_cut ≡ false
    → FailsSized (look_left look one.left) (number + 1) (place + (4 + length buffer)) buffers rest error between after told said
    → FailsSized look number place (buffer ∷ buffers) bytes error before after unsaid said
first_then_failed look at number place buffer bytes rest buffers one error before between after unsaid told said here split views cut follows = record {
  rest = rest;
  one = one;
  written = between;
  said = told;
  split = split;
  first = subst (λ (l : Look). ViewsNext l (header_text (number + 1) (place + 4)) buffer one before between unsaid told) here views;
  follows = (cut, follows);
}

-- the size, the buffer and the rest are all of the bytes
pub parts_left : (bytes buffer rest : List ℕ) → SplitsSized bytes buffer rest → length bytes ≡ 4 + (length buffer + length rest)
parts_left bytes buffer rest split =
    let whole = split.has_size in
    let front : length (take 4 bytes) ≡ 4 = length-take-le 4 bytes whole in
    ap length split.parts ∙ length-append (take 4 bytes) (buffer ++ rest) ∙ omega (arith, front, length-append buffer rest)
