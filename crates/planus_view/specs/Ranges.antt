-- The ranges of n positions for a size c above 0.
use Rattle.std.specs.Prelude.{ℕ, ◌+◌, ◌-◌, ◌*◌, ◌%◌, min, Bool, nat_lt, nat_le}
use Rattle.std.specs.Prelude.{List, map, length, take, drop}
use Rattle.std.specs.List.{filter, range_with_len}

abbrev pub ranges_where : ℕ → (ℕ → Bool) → (ℕ → ℕ × ℕ) → List (ℕ × ℕ)
ranges_where n holds range = map range (filter holds (range_with_len 0 n))

-- c positions each from the front on; the last may be shorter
abbrev pub chunk : ℕ → ℕ → ℕ → ℕ × ℕ
chunk n c i = (i * c, min ((i + 1) * c) n)

abbrev pub chunks : ℕ → ℕ → List (ℕ × ℕ)
chunks n c = ranges_where n (λ i. nat_lt (i * c) n) (chunk n c)

-- c positions each from the back; the last, at the front, may be shorter
abbrev pub rchunk : ℕ → ℕ → ℕ → ℕ × ℕ
rchunk n c i = (n - (i + 1) * c, n - i * c)

abbrev pub rchunks : ℕ → ℕ → List (ℕ × ℕ)
rchunks n c = ranges_where n (λ i. nat_lt (i * c) n) (rchunk n c)

-- exactly c positions each from the front on; fewer may remain at the back
abbrev pub exact_chunk : ℕ → ℕ → ℕ → ℕ × ℕ
exact_chunk n c i = (i * c, (i + 1) * c)

abbrev pub chunks_exact : ℕ → ℕ → List (ℕ × ℕ)
chunks_exact n c = ranges_where n (λ i. nat_le ((i + 1) * c) n) (exact_chunk n c)

-- exactly c positions each from the back; fewer may remain at the front
abbrev pub rchunks_exact : ℕ → ℕ → List (ℕ × ℕ)
rchunks_exact n c = ranges_where n (λ i. nat_le ((i + 1) * c) n) (rchunk n c)

-- c positions from each position, where all exist
abbrev pub window : ℕ → ℕ → ℕ → ℕ × ℕ
window n c i = (i, i + c)

abbrev pub windows : ℕ → ℕ → List (ℕ × ℕ)
windows n c = ranges_where n (λ i. nat_le (i + c) n) (window n c)

-- positions that the first i ranges leave, where they stand side by side
abbrev pub side_by_side : ℕ → ℕ → ℕ → ℕ
side_by_side n c i = n - i * c

-- and where they begin at each position
abbrev pub apart : ℕ → ℕ → ℕ → ℕ
apart n c i = n - i

-- without a items at the front and b at the back
abbrev pub ends : {X : Type 0} → List X → ℕ → ℕ → List X
ends R a b = take (length R - (a + b)) (drop a R)

-- positions outside all exact chunks
abbrev pub remainder : ℕ → ℕ → ℕ
remainder n c = n % c
