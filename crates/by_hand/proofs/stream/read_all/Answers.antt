use Rattle.std.proofs.Common.{◌≡◌, ◌∙◌, ◌++◌, ◌∷◌, [], List, ℕ, map, ap, sym, subst}
use Rattle.std.proofs.lemmas.List.{map_push}
use Rattle.planus.specs.read.Slices.{slice_bytes}
use Rattle.by_hand.specs.Streams.{BeginsWith}
use Rattle.by_hand.proofs.ReadStreams.{one_more, no_fault}
use Rattle.by_hand.proofs.stream.read_all.Goals as goal

pub loop-rest-preserved-in-Ok : goal.loop-rest-preserved-in-Ok
loop-rest-preserved-in-Ok c =
    let stream : List ℕ = c.args.stream.now in
    let next = c.in-Ok.behind.now in
    let read = c.in-Ok.ensures in
    let before = map slice_bytes c.loop-rest.slices.items in
    let more : BeginsWith stream (before ++ slice_bytes c.in-Ok.slice ∷ []) next =
    subst (λ content. BeginsWith stream (before ++ content ∷ []) next) (sym read.2.content)
    (subst (BeginsWith stream (before ++ read.0.content ∷ [])) (sym read.2.rest)
    (one_more stream before c.loop-rest.rest.now read.0.content read.0.rest
    c.loop-rest.invariant.begins read.1)) in
    let items : map slice_bytes c.push.new.self.items ≡ before ++ slice_bytes c.in-Ok.slice ∷ [] =
    ap (map slice_bytes) c.in_ok-push-in-Ok.ensures.items
    ∙ map_push slice_bytes c.loop-rest.slices.items c.in-Ok.slice in
    record {
      begins = subst (λ contents. BeginsWith stream contents next) (sym items) more;
      faults = no_fault c.loop-rest.fault c.is_none.result c.is_none.ensures c.loop-rest-test.true
          next;
    }
