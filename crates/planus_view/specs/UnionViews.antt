-- A view of unions: tags, references, count.
use Rattle.std.specs.Prelude.{◌≡◌, ℕ, ◌+◌, ◌-◌, ◌*◌, ◌≤◌, List, drop}
use Rattle.std.proofs.Common.{arith, ap, refl, ◌∙◌}
use Rattle.std.proofs.lemmas.List.{drop-drop}
use Rattle.std.proofs.Math.Nat.{add-mul}

pub record UnionView : Type 0 where
  pub tags : List ℕ
  pub references : List ℕ
  pub start : ℕ
  pub count : ℕ

abbrev pub sub_view : UnionView → ℕ → ℕ → UnionView
sub_view v lo hi =
    record {
      tags = drop lo v.tags;
      references = drop (lo * 4) v.references;
      start = v.start + lo * 4;
      count = hi - lo;
    }

pub record IsSubView (v : UnionView) (lo hi : ℕ) (u : UnionView) : Type 0 where
  pub order : lo ≤ hi
  pub inside : hi ≤ v.count
  pub same : u ≡ sub_view v lo hi

twice :
    (v : UnionView) (lo hi a b : ℕ) → a ≤ b
    → sub_view (sub_view v lo hi) a b ≡ sub_view v (lo + a) (lo + b)
twice v lo hi a b h =
    let tags : drop a (drop lo v.tags) ≡ drop (lo + a) v.tags = drop-drop a lo v.tags in
    let references :
    drop (a * 4) (drop (lo * 4) v.references) ≡ drop ((lo + a) * 4) v.references
    = rw (drop-drop (a * 4) (lo * 4) v.references, add-mul lo a 4) refl in
    let start : v.start + lo * 4 + a * 4 ≡ v.start + (lo + a) * 4 = omega arith in
    let count : b - a ≡ lo + b - (lo + a) = omega arith in cc

-- a sub-view has an item for each position
pub sub_view_count :
    (v u : UnionView) (lo hi : ℕ) → IsSubView v lo hi u → u.count ≡ hi - lo
sub_view_count v u lo hi h = ap (λ (s : UnionView). s.count) h.same

-- a sub-view of a sub-view is one of the whole
pub sub_view_twice :
    (v u x : UnionView) (lo hi a b : ℕ) → IsSubView v lo hi u → IsSubView u a b x
    → IsSubView v (lo + a) (lo + b) x
sub_view_twice v u x lo hi a b h k =
    let e : u.count ≡ hi - lo = sub_view_count v u lo hi h in
    record {
      order = omega arith;
      inside = omega arith;
      same = k.same ∙ ap (λ (s : UnionView). sub_view s a b) h.same ∙ twice v lo hi a b k.order;
    }
