use Rattle.std.proofs.Common.{rules, ◌-◌, ◌≡◌, List, length, drop, take, ap, subst, ◌∙◌, arith, ℕ, pos, ◌-ℤ◌, unsigned_abs, Some}
use Rattle.std.proofs.lemmas.Grind.{common_steps}
use Rattle.std.specs.Int.{w16}
use Rattle.planus_read.specs.Slices.{slice_bytes}
use Rattle.planus_read.specs.Bytes.{Num}
use Rattle.planus_read.specs.Reading.{vtable_at, vtable_size_at}
use Rattle.planus_read.proofs.Reading.{signed_value, num_value}
use Rattle.planus_read.proofs.table_reader.vtable_unchecked.Goals as goal

whole : (xs : List ℕ) → take (length xs - 4) (drop 4 xs) ≡ drop 4 xs
whole xs = grind (arith, common_steps)

pub returns-clause-slots : goal.returns-clause-slots
returns-clause-slots c =
    let S = slice_bytes c.args.buffer in let o = c.args.object_offset in
    let at : c.vtable_place-place.result ≡ vtable_at S o =
    (c.vtable_place-place.ensures ∙ ap (λ r. unsigned_abs (pos o -ℤ r)) (search rules))
    ∙ ap (λ r. unsigned_abs (pos o -ℤ r)) (signed_value S o _ c.from_buffer-relative.ensures) in
    let size : c.from_buffer-size.result ≡ vtable_size_at S o =
    num_value S (vtable_at S o) w16 c.from_buffer-size.result
    (subst (λ k. Num S k w16 ≡ Some c.from_buffer-size.result) at c.from_buffer-size.ensures) in
    let rest = c.as_slice-rest.ensures ∙ c.unchecked_advance.ensures.bytes in
    whole (take c.from_buffer-size.result c.as_slice-rest.result.now)
    ∙ ap (λ l. drop 4 (take c.from_buffer-size.result l)) (rest ∙ ap (λ k. drop k S) at)
    ∙ ap (λ n. drop 4 (take n (drop (vtable_at S o) S))) size
