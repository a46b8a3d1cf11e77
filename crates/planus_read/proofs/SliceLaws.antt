-- What is encoded in bytes is encoded in their slices.
use Rattle.std.proofs.Common.{◌≡◌, ℕ, ◌+◌, ◌≤◌, List, ◌++◌, length, take, drop, sym, ap, ◌∙◌, subst}
use Rattle.std.proofs.Common.{arith}
use Rattle.std.proofs.lemmas.List.{drop-drop, take-append-drop, length-take-le}
use Rattle.std.specs.Int.{Width, w32, byte_len}
use Rattle.planus_read.specs.Bytes.{Num, BytesStand}
use Rattle.planus_read.specs.Stands.{Stands, FieldStands}
use Rattle.planus_read.specs.Moves.{moved}
use Rattle.planus_read.specs.SliceLaws.{ReferencesLead, LeadsInSlices, FieldsStandInSlices}
use Rattle.planus_read.specs.SliceLaws.{StandsInSlices}
use Rattle.planus_read.proofs.Moves.{num_moves, field_back, stands_alone}
use Rattle.planus_read.proofs.Reading.{num_inside}

pub references_lead : ReferencesLead
references_lead B f distance h = let whole : f + h.0 + distance ≡ length B = h.2 in
    (h.0, h.1, omega arith)

pub num_in_slice :
    (B : List ℕ) (start f : ℕ) (w : Width) → start ≤ length B
    → Num B (start + f) w ≡ Num (drop start B) f w
num_in_slice B start f w inside =
    ap (λ l. Num l (start + f) w) (sym (take-append-drop start B))
    ∙ num_moves (take start B) (drop start B) f (start + f) w
    (ap (λ n. n + f) (sym (length-take-le start B inside)))

pub leads_in_slices : LeadsInSlices
leads_in_slices B start f k h =
    let here : start + f + byte_len w32 ≤ length B = num_inside B (start + f) w32 h.0 h.1 in
    let to : start + k ≡ start + f + h.0 = h.2 in
    (h.0, sym (num_in_slice B start f w32 (omega arith)) ∙ h.1, omega arith)

pub bytes_in_slice :
    (B : List ℕ) (start f : ℕ) (bytes : List ℕ) → BytesStand B (start + f) bytes
    → BytesStand (drop start B) f bytes
bytes_in_slice B start f bytes h = ap (take (length bytes)) (drop-drop f start B) ∙ h

pub fields_stand_in_slices : FieldsStandInSlices
fields_stand_in_slices B start f field inside h =
    field_back (take start B) (drop start B) f (start + f) field
    (ap (λ n. n + f) (sym (length-take-le start B inside)))
    (subst (λ l. FieldStands l (start + f) field) (sym (take-append-drop start B)) h)

pub stands_in_slices : StandsInSlices
stands_in_slices B start p v inside h =
    stands_alone (take start B) (drop start B) p v
    (subst (λ n. Stands (take start B ++ drop start B) (moved n p) v)
    (sym (length-take-le start B inside))
    (subst (λ l. Stands l (moved start p) v) (sym (take-append-drop start B)) h))
