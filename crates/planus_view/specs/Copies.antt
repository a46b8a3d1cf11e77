-- The items of a view, converted.
use Rattle.std.specs.Prelude.{◌≡◌, ℕ, ◌<◌, ◌⊎◌, List, length, slice_get, Some, Result, Ok, Err}
use Rattle.planus_read.specs.declared.located.Error.{Error}
use Rattle.planus_view.specs.declared.copies.CopyError.{CopyError}
use Rattle.planus_view.specs.declared.copies.CopyError.TheVariants.{OutOfMemory, Read}

module _
    {V A O : Type 0} (is_sub_view : V → ℕ → ℕ → V → Type 0) (is_item : V → ℕ → A → Type 0)
    (converts : A → Result O CopyError → Type 0)
  where
    abbrev pub ItemConverts : V → ℕ → ℕ → Result O CopyError → Type 0
    ItemConverts v n i r =
        (left : V) × (x : A) × is_sub_view v i n left × is_item left 0 x × converts x r

    pub record AreFirstConverted (v : V) (n : ℕ) (out : List O) : Type 0 where
      pub each : (i : ℕ) (y : O) → slice_get out i ≡ Some y → ItemConverts v n i (Ok y)

    -- all n items converted
    pub record AreAllConverted (v : V) (n : ℕ) (out : List O) : Type 0 where
      pub count : length out ≡ n
      pub converted : AreFirstConverted v n out

    -- The first error: no memory, or an item's after converted ones.
    abbrev pub IsRefusal : V → ℕ → CopyError → Type 0
    IsRefusal v n e =
        (e ≡ OutOfMemory)
        ⊎ ((out : List O) × AreFirstConverted v n out × (length out < n)
        × ItemConverts v n (length out) (Err e))

-- an error of the read converts to this one
abbrev pub ReadConverts :
    {T E O : Type 0} → (T → Result O CopyError → Type 0) → (E → Error → Type 0) → Result T E
    → Result O CopyError → Type 0
ReadConverts converts into (Ok x) r = converts x r
ReadConverts converts into (Err e) r = (error : Error) × into e error × (r ≡ Err (Read error))
