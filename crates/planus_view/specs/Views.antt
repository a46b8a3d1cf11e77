-- A view of items: bytes, their start, count.
use Rattle.std.specs.Prelude.{◌≡◌, ℕ, ◌+◌, ◌-◌, ◌*◌, ◌≤◌, List, drop}

pub record View : Type 0 where
  pub bytes : List ℕ
  pub start : ℕ
  pub count : ℕ

abbrev pub sub_view : ℕ → View → ℕ → ℕ → View
sub_view stride v lo hi =
    record {
      bytes = drop (lo * stride) v.bytes;
      start = v.start + lo * stride;
      count = hi - lo;
    }

pub record IsSubView (stride : ℕ) (v : View) (lo hi : ℕ) (u : View) : Type 0 where
  pub order : lo ≤ hi
  pub inside : hi ≤ v.count
  pub same : u ≡ sub_view stride v lo hi
