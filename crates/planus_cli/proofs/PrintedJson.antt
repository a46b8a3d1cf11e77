-- Buffers printed one after another, each after its size.
use Rattle.std.proofs.Common.{◌≡◌, ℕ, ◌+◌, Bool, List, [], ◌∷◌, length, refl, sym, subst, true, false}
use Rattle.std.specs.Prelude.{Option, Some, Result, Ok, Err, IfOk, MatchBool, max}
use Rattle.planus_schema.specs.declared.schema.Schema.{Schema}
use Rattle.planus_dump.specs.declared.schemas.Schema.{Schema as Dumped}
use Rattle.planus_inspect.specs.Shown.{Shows}
use Rattle.planus_cli.specs.declared.print_json.Printed.{Printed}
use Rattle.planus_cli.specs.declared.streams.CallError.{CallError}
use Rattle.planus_cli.specs.Arguments.{WordsV, limit_of}
use Rattle.planus_cli.specs.Viewing.{SplitsSized}
use Rattle.planus_cli.specs.PrintingJson.{Manner, numbered, PrintsOne, PrintsSized, EndsFaulty, Prints, PrintsBytes, manner, layout_of}

-- nothing follows the first buffer, which has a fault
pub first_faulty : (how : Manner) (number place : ℕ) (buffer bytes rest : List ℕ) (one : Printed) (worst : ℕ) (before after unsaid said : Option (List ℕ))
    → SplitsSized bytes buffer rest → PrintsOne how (Some (numbered (number + 1) (place + 4))) buffer one before after unsaid said → one.has_fault ≡ true
    → PrintsSized how number place (buffer ∷ []) bytes worst 1 before after unsaid said
first_faulty how number place buffer bytes rest one worst before after unsaid said split prints faulty = record {
  rest = rest;
  one = one;
  written = after;
  said = said;
  split = split;
  first = prints;
  follows = subst (λ b. MatchBool b (EndsFaulty [] 1 after after said said)
      (PrintsSized how (number + 1) (place + (4 + length buffer)) [] rest (max worst one.status) 1 after after said said)) (sym faulty)
      (record { last = refl; is = refl; kept = refl; unsaid_kept = refl });
}

-- what follows the first buffer
pub first_printed : (how : Manner) (number place : ℕ) (buffer bytes rest : List ℕ) (buffers : List (List ℕ)) (one : Printed) (worst status : ℕ)
    (before between after unsaid told said : Option (List ℕ))
    → SplitsSized bytes buffer rest → PrintsOne how (Some (numbered (number + 1) (place + 4))) buffer one before between unsaid told → one.has_fault ≡ false
    → PrintsSized how (number + 1) (place + (4 + length buffer)) buffers rest (max worst one.status) status between after told said
    → PrintsSized how number place (buffer ∷ buffers) bytes worst status before after unsaid said
first_printed how number place buffer bytes rest buffers one worst status before between after unsaid told said split prints whole follows = record {
  rest = rest;
  one = one;
  written = between;
  said = told;
  split = split;
  first = prints;
  follows = subst (λ b. MatchBool b (EndsFaulty buffers status between after told said)
      (PrintsSized how (number + 1) (place + (4 + length buffer)) buffers rest (max worst one.status) status between after told said)) (sym whole) follows;
}

pub held : (how : Manner) (bytes : List ℕ) (prefixed way : Bool) (r : Result ℕ CallError) (before after unsaid said : Option (List ℕ)) → prefixed ≡ way
    → IfOk r (λ status. Prints way how bytes status before after unsaid said) → IfOk r (λ status. Prints prefixed how bytes status before after unsaid said)
held how bytes prefixed way r before after unsaid said is h =
    subst (λ p. IfOk r (λ status. Prints p how bytes status before after unsaid said)) (sym is) h

pub printed : (schema : Schema) (words : WordsV) (root : ℕ) (name bytes : List ℕ) (dumped : Dumped) (most : ℕ) (r : Result ℕ CallError) (before after unsaid said : Option (List ℕ))
    → Shows schema root dumped → most ≡ limit_of words.bytes 67108864
    → IfOk r (λ status. Prints words.size_prefixed (manner schema dumped (layout_of words) most name) bytes status before after unsaid said)
    → IfOk r (λ status. PrintsBytes schema words root name bytes status before after unsaid said)
printed schema words root name bytes dumped most (Ok status) before after unsaid said shows is h = record {
  dumped = dumped;
  shows = shows;
  prints = subst (λ most. Prints words.size_prefixed (manner schema dumped (layout_of words) most name) bytes status before after unsaid said) is h;
}
printed schema words root name bytes dumped most (Err error) before after unsaid said shows is h = tt
