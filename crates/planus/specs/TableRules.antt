-- Which tables can be declared, by all fields they may have.
use Rattle.std.specs.Prelude.{◌≡◌, ℕ, ◌+◌, List, [], ◌∷◌, Bool, true, not, ◌&&◌, leb, ◌==◌, ⊤}
use Rattle.std.specs.Prelude.{◌⊎◌}
use Rattle.planus_write.specs.Tables.{Declared, total_size}
use Rattle.planus_write.specs.TableWriting.{slot_position}

-- no entry has this slot
abbrev pub is_apart : ℕ → List Declared → Bool
is_apart slot [] = true
is_apart slot (one ∷ declared) = not (one.slot == slot) && is_apart slot declared

-- each slot is within n bytes of vtable, and none is used twice
abbrev pub has_slots : ℕ → List Declared → Bool
has_slots n [] = true
has_slots n (one ∷ declared) =
    leb (slot_position one.slot + 2) n && (is_apart one.slot declared && has_slots n declared)

-- no alignment is above this, nor above the one before
abbrev pub is_falling : ℕ → List Declared → Bool
is_falling bound [] = true
is_falling bound (one ∷ declared) =
    leb one.alignment bound && is_falling one.alignment declared

-- slots fit in n bytes of vtable, objects in 65535 bytes, and alignments fall
abbrev pub can_hold : ℕ → List Declared → Bool
can_hold n declared =
    leb 4 n && (leb n 65534 && (leb (4 + total_size declared) 65535
    && (has_slots n declared && is_falling 1073741824 declared)))

-- a union's two slots are neighbours, tags first
abbrev pub are_neighbours : List (ℕ × ℕ) → Bool
are_neighbours [] = true
are_neighbours (one ∷ others) = (one.1 == one.0 + 1) && are_neighbours others

-- some of the entries, in order
abbrev pub Among : List Declared → List Declared → Type 0
Among [] all = ⊤
Among (one ∷ some) [] = ⊥
Among (one ∷ some) (first ∷ all) = ((one ≡ first) × Among some all) ⊎ Among (one ∷ some) all
