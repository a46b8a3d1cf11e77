-- The items of sub-views.
use Rattle.std.proofs.Common.{refl, ◌==◌, not, ◌≡◌, ℕ, ◌+◌, ◌*◌, ◌<◌, ◌≤◌, List, length, drop, sym}
use Rattle.std.proofs.Common.{ap, ◌∙◌, arith, ⊎_elim, None}
use Rattle.std.proofs.Math.Nat.{add-mul}
use Rattle.std.proofs.lemmas.Bool.{cases_lt, lt-leb}
use Rattle.std.proofs.lemmas.List.{length-drop}
use Rattle.std.specs.Int.{Width, w8, w16, w32, w64, w128, byte_len, cast_signed}
use Rattle.std.specs.Option.{option_map}
use Rattle.planus_view.specs.Views.{View}
use Rattle.planus_read.proofs.SliceLaws.{num_in_slice}
use Rattle.planus_read.specs.Bytes.{Num}
use Rattle.planus_view.specs.Laws.{SameItems, ItemsOfSubViews}
use Rattle.planus_view.proofs.SubViewTexts.{same_texts}

none_past : (S : List ℕ) (f : ℕ) (w : Width) → length S < f + byte_len w → Num S f w ≡ None
none_past S f w h = rw (lt-leb (f + byte_len w) (length S) h) refl

num_behind :
    (S : List ℕ) (p f : ℕ) (w : Width) → 1 ≤ byte_len w → Num S (p + f) w ≡ Num (drop p S) f w
num_behind S p f w one =
    ⊎_elim
    (λ (h : length S < p).
    none_past S (p + f) w (omega arith)
    ∙ sym (none_past (drop p S) f w (omega (arith, length-drop p S))))
    (λ (h : p ≤ length S). num_in_slice S p f w h) (cases_lt (length S) p)

some_bytes : (w : Width) → 1 ≤ byte_len w
some_bytes w8 = omega arith
some_bytes w16 = omega arith
some_bytes w32 = omega arith
some_bytes w64 = omega arith
some_bytes w128 = omega arith

items_behind :
    (S : List ℕ) (p f g : ℕ) → p + f ≡ g → SameItems (drop p S) f S g
items_behind S p f g e = record {
  numbers = λ w x. (λ h. sym (same w) ∙ h, λ h. same w ∙ h);
  signed = λ w x. (
    λ h. ap (option_map (cast_signed w)) (sym (same w)) ∙ h,
    λ h. ap (option_map (cast_signed w)) (same w) ∙ h,
  );
  truths = λ x. (
    λ h. ap (option_map (λ n. not (n == 0))) (sym (same w8)) ∙ h,
    λ h. ap (option_map (λ n. not (n == 0))) (same w8) ∙ h,
  );
  texts = same_texts S p f g e;
}
  where
    same : (w : Width) → Num (drop p S) f w ≡ Num S g w
    same w = sym (num_behind S p f w (some_bytes w)) ∙ ap (λ k. Num S k w) e

pub items_of_sub_views : ItemsOfSubViews
items_of_sub_views stride v u lo hi i is =
    let bytes : u.bytes ≡ drop (lo * stride) v.bytes = ap (λ (s : View). s.bytes) is.same in
    rw bytes
    (items_behind v.bytes (lo * stride) (i * stride) ((lo + i) * stride) (sym (add-mul lo i
    stride)))
