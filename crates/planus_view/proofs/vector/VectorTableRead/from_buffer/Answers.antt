use Rattle.std.proofs.Common.{◌≡◌, ◌-◌, ◌*◌, length, refl, ap, ◌∙◌, inl, inr, arith, length-drop}
use Rattle.planus_read.specs.Slices.{slice_bytes}
use Rattle.planus_read.specs.Reading.{count_at}
use Rattle.planus_read.proofs.Reading.{HeadFacts, head_facts}
use Rattle.planus_view.proofs.vector.VectorTableRead.from_buffer.Goals as goal
use Rattle.planus_view.proofs.vector.VectorTableRead.from_buffer.Goals.{
  in_default-via-in-Some+else-size-len,
  in_default-via-in_default,
}

pub returns-in_default : goal.returns-in_default
returns-in_default g c =
    let S = slice_bytes c.args.buffer in let head = c.in_ok-items.ensures in
    let facts : HeadFacts S c.args.offset head.0.position head.0.count =
    head_facts S c.args.offset head.0.position head.0.count head.1 in
    let counted : c.in_ok-items.count ≡ count_at S c.args.offset =
    head.2.counted ∙ facts.count_is in
    let size : c.in_ok-items.count * c.stride.result
    ≡ count_at S c.args.offset * g.T.Stands.Plain.SIZE = (λ i. counted i * c.stride.ensures i) in
    let rest : length (slice_bytes c.in_ok-items.items) ≡ length S - head.0.position =
    ap length head.2.bytes ∙ length-drop head.0.position S in
    inr (
      facts.reference,
      inr (
        facts.inside,
        inr (
          facts.word,
          inl (
            λ fits. elim c.in_default.branch as (λ _. ⊥) [
              | in_default-via-in-Some+else-size-len w ↦
                  omega (
                    arith,
                    fits,
                    size,
                    rest,
                    facts.position_is,
                    w.in-Some.ensures.1,
                    w.len.ensures,
                    w.if-size-len.false,
                  )
              | in_default-via-in_default w ↦ w.in_default.ensures (omega (arith, fits, size))
            ],
            refl,
          ),
        ),
      ),
    )
