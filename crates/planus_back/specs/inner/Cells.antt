-- The places of a block after a lend.
use Rattle.core.specs.Prelude.{ℕ, ◌+◌, List, ◌++◌, take, drop}
use Rattle.core.specs.List.{refill, length_refill}
use Rattle.core.specs.declared.slots.Slots.{Slots}
use Rattle.core.specs.contracts.slots.Slots.{the_row}
use Rattle.std.specs.Borrow.{Fml, RattleType, MutBor, Array, Lends}

module _ {X : Type 0} where
  abbrev pub items_with_run : Slots X → ℕ → ℕ → List X → List X
  items_with_run a from len run =
      refill a.len a.items (take from a.items ++ (run ++ drop (from + len) a.items))

  abbrev pub slots_with_run : Slots X → ℕ → ℕ → List X → Slots X
  slots_with_run a from len run = record {
    ptr = a.ptr;
    len = a.len;
    items = items_with_run a from len run;
    filled = a.filled;
    ok = (
      length_refill a.len a.items (take from a.items ++ (run ++ drop (from + len) a.items))
          a.ok.0,
      a.ok.1,
    );
    small = a.small;
  }

-- when the borrow ends, the run of places holds what was written through it
abbrev pub lends_run : (R : RattleType) → MutBor (Slots R.Denot) → ℕ → ℕ → MutBor (List R.Denot)
    → Fml
lends_run R a from len r = Lends (the_row R) (Array R 0) a r (slots_with_run a.now from len)
