-- Rising keys, and a key that is looked up among them.
use Rattle.std.proofs.Common.{◌≡◌, refl, sym, ap, ◌∙◌, false}
use Rattle.std.specs.Cmp.{IsTotalOrder}
use Rattle.std.specs.Ordering.{is_gt, is_lt, ordering_reverse}
use Rattle.std.specs.declared.cmp.Ordering.{Ordering}
use Rattle.std.specs.declared.cmp.Ordering.TheVariants.{Less, Equal, Greater}
use Rattle.std.proofs.lemmas.Bool.{true≢false}
use Rattle.std.proofs.lemmas.List.Sorted.{ranks_by, sorted_far}
use Rattle.planus_keys.specs.Finds.{RisingKeysPartition, SortedKeysRise}

module _ {K : Type 0} (cmp : K → K → Ordering) (total : IsTotalOrder cmp) where
  below : (x y key : K) (o : Ordering) → cmp x y ≡ o → is_gt o ≡ false → cmp y key ≡ Less
      → cmp x key ≡ Less
  below x y key Less is rises less = total.trans x y key is less
  below x y key Equal is rises less = total.congr x y key is ∙ less
  below x y key Greater is rises less = absurd (true≢false rises)

  above : (x y key : K) (o : Ordering) → cmp x y ≡ o → is_gt o ≡ false → cmp x key ≡ Greater
      → cmp y key ≡ Greater
  above x y key Less is rises greater =
      total.antisymm y key
      ∙ ap ordering_reverse (total.trans key x y
      (total.antisymm key x ∙ ap ordering_reverse greater) is)
  above x y key Equal is rises greater = sym (total.congr x y key is) ∙ greater
  above x y key Greater is rises greater = absurd (true≢false rises)

  pub rising_keys_partition : RisingKeysPartition cmp
  rising_keys_partition keys n key rise = record {
    below = λ i j order inside less.
        below (keys i) (keys j) key (cmp (keys i) (keys j)) refl (rise i j order inside) less;
    above = λ i j order inside greater.
        above (keys i) (keys j) key (cmp (keys i) (keys j)) refl (rise i j order inside) greater;
  }

  turned : (o : Ordering) → is_gt (ordering_reverse o) ≡ is_lt o
  turned Less = refl
  turned Equal = refl
  turned Greater = refl

  pub sorted_keys_rise : (X : Type 0) → SortedKeysRise X cmp
  sorted_keys_rise X pairs other sorted i j order inside =
      ap is_gt (total.antisymm _ _) ∙ turned _
      ∙ sorted_far _ (ranks_by total (λ (one : K × X). one.0)) pairs sorted i j other order inside
