use Rattle.std.proofs.Common.{inl, inr, refl, subst}
use Rattle.std.specs.Prelude.{Ok, Err}
use Rattle.planus_read.specs.declared.slice_helpers.SliceWithStartOffset.{SliceWithStartOffset}
use Rattle.planus_read.specs.Slices.{slice_bytes}
use Rattle.planus_view.specs.PlainRefs.{plain_slice, reads_plain_ref}
use Rattle.planus_foreign.proofs.there.value_behind.Goals as goal

pub returns-in-Ok : goal.returns-in-Ok
returns-in-Ok g c =
    let slice = plain_slice c.in-Ok.found in
    let reads = reads_plain_ref (λ (s : SliceWithStartOffset). s) g.T.Plain.SIZE in
    inl (record {
      slice = slice;
      found = subst (λ S. reads S 0 c.args.position (Ok slice)) c.new.ensures.bytes
          (subst (λ start. reads (slice_bytes c.new.result) start c.args.position (Ok slice))
          c.new.ensures.start c.in-Ok.ensures);
      answer = c.get.ensures.answer;
    })

pub returns-in-Err : goal.returns-in-Err
returns-in-Err g c =
    let reads = reads_plain_ref (λ (s : SliceWithStartOffset). s) g.T.Plain.SIZE in
    inr (record {
      kind = c.in-Err.kind;
      broken = subst (λ S. reads S 0 c.args.position (Err c.in-Err.kind)) c.new.ensures.bytes
          (subst (λ start. reads (slice_bytes c.new.result) start c.args.position
          (Err c.in-Err.kind)) c.new.ensures.start c.in-Err.ensures);
      is = refl;
    })
