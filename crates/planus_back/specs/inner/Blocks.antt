-- How a block holds a back vector's bytes.
use Rattle.std.specs.Prelude.{◌≡◌, ℕ, ◌+◌, ◌≤◌, List, ◌++◌, length, drop}
use Rattle.core.specs.Mem.Slots.{slots_items, slots_filled, slots_ptr, slots_len}
use Rattle.core.specs.Mem.Slots.Ownership.{Filled}
use denote.RawPtr.{InBlock}
use Rattle.planus_back.specs.declared.block.Block.{Block}

abbrev pub capacity_of : Block → ℕ
capacity_of b = slots_len b.places

abbrev pub bytes_from : Block → ℕ → List ℕ
bytes_from b k = drop k (slots_items b.places)

-- each place from `initialized` on holds a byte, and the deed is that of these places
pub record IsBlock (b : Block) : Type 0 where
  pub inside : InBlock b.base
  pub base : b.base ≡ slots_ptr b.places
  pub deed : (b.deed.at ≡ slots_ptr b.places) × (b.deed.len ≡ capacity_of b)
      × (b.deed.alloc ≡ b.alloc)
  pub initialized : Filled (slots_filled b.places) b.initialized (capacity_of b)

-- each place from the start on holds a byte too, even before `initialized`
pub record HoldsFrom (b : Block) (start : ℕ) : Type 0 where
  pub block : IsBlock b
  pub within : start ≤ capacity_of b
  pub filled : Filled (slots_filled b.places) start (capacity_of b)

pub record Puts (b : Block) (at : ℕ) (part : List ℕ) (b' : Block) : Type 0 where
  pub holds : HoldsFrom b' at
  pub capacity : capacity_of b' ≡ capacity_of b
  pub bytes : bytes_from b' at ≡ part ++ bytes_from b (at + length part)

-- each place from `at` on holds a byte, and from `start` on the same one
pub record Readies (b : Block) (at start : ℕ) (b' : Block) : Type 0 where
  pub holds : HoldsFrom b' at
  pub capacity : capacity_of b' ≡ capacity_of b
  pub bytes : (k : ℕ) → start ≤ k → bytes_from b' k ≡ bytes_from b k
