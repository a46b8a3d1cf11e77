-- Sub-views of sub-views.
use Rattle.std.proofs.Common.{◌≡◌, ℕ, ◌+◌, ◌-◌, ◌*◌, ◌≤◌, drop, arith, ap, refl, ◌∙◌}
use Rattle.std.proofs.lemmas.List.{drop-drop}
use Rattle.std.proofs.Math.Nat.{add-mul}
use Rattle.planus_view.specs.Views.{View, sub_view, IsSubView}

twice :
    (w : ℕ) (v : View) (lo hi a b : ℕ) → a ≤ b
    → sub_view w (sub_view w v lo hi) a b ≡ sub_view w v (lo + a) (lo + b)
twice w v lo hi a b h =
    let bytes : drop (a * w) (drop (lo * w) v.bytes) ≡ drop ((lo + a) * w) v.bytes =
    rw (drop-drop (a * w) (lo * w) v.bytes, add-mul lo a w) refl in
    let start : v.start + lo * w + a * w ≡ v.start + (lo + a) * w = omega (arith, add-mul lo a w) in
    let count : b - a ≡ lo + b - (lo + a) = omega arith in cc

pub sub_view_count :
    (w : ℕ) (v u : View) (lo hi : ℕ) → IsSubView w v lo hi u → u.count ≡ hi - lo
sub_view_count w v u lo hi h = ap (λ (s : View). s.count) h.same

pub sub_view_twice :
    (w : ℕ) (v u x : View) (lo hi a b : ℕ) → IsSubView w v lo hi u → IsSubView w u a b x
    → IsSubView w v (lo + a) (lo + b) x
sub_view_twice w v u x lo hi a b h k =
    let e : u.count ≡ hi - lo = sub_view_count w v u lo hi h in
    record {
      order = omega arith;
      inside = omega arith;
      same = k.same ∙ ap (λ (s : View). sub_view w s a b) h.same ∙ twice w v lo hi a b k.order;
    }
