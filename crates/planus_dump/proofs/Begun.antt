-- What of some bytes was written.
use Rattle.std.proofs.Common.{◌≡◌, ℕ, List, [], ◌++◌, take, drop, refl, sym, ap, ◌∙◌, subst, Option, append_assoc, append-nil, take-append-drop}
use Rattle.std.specs.Io.KnownBytes.{Appends, Keeps}
use Rattle.std.proofs.KnownBytes.{Appends-nil, Appends-trans, Appends-kept}
use Rattle.planus_dump.specs.Writing.{WritesBeginning, Leaves}

pub all_are_left : (bytes : List ℕ) (known : Option (List ℕ)) → Leaves bytes bytes known known
all_are_left bytes known = ([], refl, Appends-nil known)

pub more_written : (bytes rest : List ℕ) (count : ℕ) (before between after : Option (List ℕ))
    → Leaves bytes rest before between → Appends between after (take count rest)
    → Leaves bytes (drop count rest) before after
more_written bytes rest count before between after (written, same, begun) more = (
  written ++ take count rest,
  same ∙ ap (λ l. written ++ l) (sym (take-append-drop count rest)) ∙ sym (append_assoc written (take count rest) (drop count rest)),
  Appends-trans before between after written (take count rest) begun more,
)

pub none_written : (bytes rest : List ℕ) (before between after : Option (List ℕ))
    → Leaves bytes rest before between → Keeps between after → Leaves bytes rest before after
none_written bytes rest before between after (written, same, begun) keeps =
    (written, same, Appends-kept before between after written begun keeps)

pub is_beginning : (bytes rest : List ℕ) (before after : Option (List ℕ)) → Leaves bytes rest before after
    → WritesBeginning bytes before after
is_beginning bytes rest before after (written, same, begun) = (written, rest, same, begun)

pub all_written : (bytes rest : List ℕ) (before after : Option (List ℕ)) → Leaves bytes rest before after
    → rest ≡ [] → Appends before after bytes
all_written bytes rest before after (written, same, begun) none =
    subst (λ l. Appends before after l) (sym (same ∙ ap (λ l. written ++ l) none ∙ append-nil written)) begun
