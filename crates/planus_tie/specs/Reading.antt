-- What is read of a text without layout.
use Rattle.std.specs.Prelude.{ℕ, Bool, false, nat_eq, List, [], ◌∷◌, ◌++◌, length, drop}
use Rattle.std.specs.Prelude.{codes, Option, Some, None, if◌then◌else◌}
use Rattle.std.specs.List.{starts_with}

-- what follows the first place of a mark
abbrev pub after : List ℕ → List ℕ → Option (List ℕ)
after mark [] = None
after mark (b ∷ bs) = if starts_with nat_eq (b ∷ bs) mark then Some (drop (length mark) (b ∷ bs))
    else after mark bs

abbrev pub after_in : List ℕ → Option (List ℕ) → Option (List ℕ)
after_in mark None = None
after_in mark (Some text) = after mark text

-- how a method of this name begins
abbrev pub method_mark : List ℕ → List ℕ
method_mark name = codes "pub fn " ++ (name ++ codes "(&self)->")

-- what follows the clause and the brace of the method that begins so
abbrev pub body_of : List ℕ → List ℕ → Option (List ℕ)
body_of mark text = after_in (codes "}{") (after mark text)

-- the list of what is created, and what follows it
abbrev pub list_in : List ℕ → Option (List ℕ)
list_in text = after (codes "let lines=fields![") text

abbrev pub begins : Option (List ℕ) → List ℕ → Bool
begins None wanted = false
begins (Some text) wanted = starts_with nat_eq text wanted

-- the place of this in a text, if it begins there
abbrev pub if_begins : Option (List ℕ) → List ℕ → Option (List ℕ)
if_begins text wanted = if begins text wanted then text else None
