use Rattle.std.proofs.Common.{◌≡◌, ◌∙◌, ◌++◌, ◌∷◌, [], ℕ, ap, sym, subst, map, refl, length, None, Vec, Global}
use Rattle.std.specs.Option.{option_and_then}
use Rattle.planus_write.specs.Parts.{finish_entry, sized_finish_entry}
use Rattle.planus.specs.Steps.{root_first, size_first, front_of, finish}
use Rattle.planus.specs.Runs.{value_distance}
use Rattle.planus_write.specs.Finishing.{PutsInFront}
use Rattle.planus.specs.inner.Names.{name_of, listed_from}
use Rattle.planus.specs.Replays.{place_of}
use Rattle.planus.specs.inner.Replaying.{values_listed, Stopped}
use Rattle.planus.specs.declared.replaying.faults.ReplayError.TheVariants.{OutOfMemory}
use Rattle.planus.specs.declared.replaying.finishes.Finished.{Finished}
use Rattle.planus.specs.declared.replaying.state.ReplayState.{ReplayState}
use Rattle.std.proofs.lemmas.Result.{err_from_is_err_and}
use Rattle.planus.proofs.Stepping.{value_inside, finish_advances, finish_stopped, finish_not_given, offset_finished}
use Rattle.planus.proofs.replaying.state.ReplayState.finish.Goals as goal
use Rattle.planus.proofs.replaying.state.ReplayState.finish.Goals.{then-sized+in_ok-finish_size_prefixed+in_ok-bytes, else-sized+in_ok-finish+in_ok-bytes-2}

pub finish-requires : goal.finish-requires
finish-requires c = value_inside c.args.self.now c.requires.reached c.args.root c.in-Ok.root.distance (ap (option_and_then value_distance) c.in-Ok.ensures.0)

pub finish_size_prefixed-requires : goal.finish_size_prefixed-requires
finish_size_prefixed-requires c = value_inside c.args.self.now c.requires.reached c.args.root c.in-Ok.root.distance (ap (option_and_then value_distance) c.in-Ok.ensures.0)

new : goal.In_ok-push-2 → ReplayState
new c = record { builder = c.if-sized.self.builder; first = c.if-sized.self.first; offsets = c.push-2.new.self; finished = c.push.new.self }

given : goal.In_ok-push-2 → Finished
given c = record { bytes = c.if-sized.bytes; places = c.in_ok-places.places }

listed : (c : goal.In_ok-push-2) → map place_of c.in_ok-places.places.items ≡ values_listed c.if-sized.self
listed c = c.in_ok-places.ensures ∙ ap (λ offsets. listed_from c.if-sized.self.first (map name_of offsets)) c.as_slice.ensures.value

pub returns : goal.returns
unfolding new given
returns c = elim c.if-sized.branch [
  | then-sized+in_ok-finish_size_prefixed+in_ok-bytes w ↦
      rw w.if-sized.true (finish_advances size_first c.args.root c.args.id (λ n. sized_finish_entry n c.args.id) (λ n. refl) c.in-Ok.root.distance c.args.self.now (new c) (given c)
      (length c.if-sized.self.builder.bytes) (ap (option_and_then value_distance) c.in-Ok.ensures.0)
      (let done = offset_finished c.in-Ok.root (λ n. sized_finish_entry n c.args.id) c.args.self.now.builder w.finish_size_prefixed.follows.lender-at-none w.finish_size_prefixed.result w.in_ok-finish_size_prefixed.field-0 w.in_ok-finish_size_prefixed.was w.finish_size_prefixed.follows.holds-at-none in
      subst (λ (s : ReplayState). PutsInFront (sized_finish_entry c.in-Ok.root.distance c.args.id) c.args.self.now.builder (length s.builder.bytes) s.builder) (sym w.self-is) done.0)
      (ap (λ (s : ReplayState). s.first) w.self-is)
      (c.in_ok-push-2.ensures.items ∙ ap (λ (s : ReplayState). s.offsets.items ++ None ∷ []) w.self-is)
      (c.in_ok-push.ensures.items ∙ ap (λ (s : ReplayState). s.finished.items ++ given c ∷ []) w.self-is)
      (let done = offset_finished c.in-Ok.root (λ n. sized_finish_entry n c.args.id) c.args.self.now.builder w.finish_size_prefixed.follows.lender-at-none w.finish_size_prefixed.result w.in_ok-finish_size_prefixed.field-0 w.in_ok-finish_size_prefixed.was w.finish_size_prefixed.follows.holds-at-none in
      ap (λ (v : Vec ℕ Global). v.items) w.bytes-is ∙ w.in_ok-bytes.ensures.items ∙ done.1 ∙ sym (ap (λ (s : ReplayState). s.builder.bytes) w.self-is))
      (listed c ∙ ap values_listed w.self-is))
  | else-sized+in_ok-finish+in_ok-bytes-2 w ↦
      rw w.if-sized.false (finish_advances root_first c.args.root c.args.id (λ n. finish_entry n c.args.id) (λ n. refl) c.in-Ok.root.distance c.args.self.now (new c) (given c)
      (length c.if-sized.self.builder.bytes) (ap (option_and_then value_distance) c.in-Ok.ensures.0)
      (let done = offset_finished c.in-Ok.root (λ n. finish_entry n c.args.id) c.args.self.now.builder w.finish.follows.lender-at-none w.finish.result w.in_ok-finish.field-0 w.in_ok-finish.was w.finish.follows.holds-at-none in
      subst (λ (s : ReplayState). PutsInFront (finish_entry c.in-Ok.root.distance c.args.id) c.args.self.now.builder (length s.builder.bytes) s.builder) (sym w.self-is) done.0)
      (ap (λ (s : ReplayState). s.first) w.self-is)
      (c.in_ok-push-2.ensures.items ∙ ap (λ (s : ReplayState). s.offsets.items ++ None ∷ []) w.self-is)
      (c.in_ok-push.ensures.items ∙ ap (λ (s : ReplayState). s.finished.items ++ given c ∷ []) w.self-is)
      (let done = offset_finished c.in-Ok.root (λ n. finish_entry n c.args.id) c.args.self.now.builder w.finish.follows.lender-at-none w.finish.result w.in_ok-finish.field-0 w.in_ok-finish.was w.finish.follows.holds-at-none in
      ap (λ (v : Vec ℕ Global). v.items) w.bytes-is ∙ w.in_ok-bytes-2.ensures.items ∙ done.1 ∙ sym (ap (λ (s : ReplayState). s.builder.bytes) w.self-is))
      (listed c ∙ ap values_listed w.self-is))
]

pub returns-in_err-finish : goal.returns-in_err-finish
returns-in_err-finish c =
    let p = err_from_is_err_and c.from_residual-in_err-finish.result c.from_residual-in_err-finish.ensures.1 in
    rw (c.if-sized.false, p.1, p.2) (finish_stopped root_first c.args.root c.args.id (λ n. finish_entry n c.args.id) (λ n. refl) c.args.self.now c.in-Ok.root (ap (option_and_then value_distance) c.in-Ok.ensures.0) c.finish.result c.in_err-finish.field-0.0 c.finish.follows.lender-at-none c.in_err-finish.was
    c.finish.follows.holds-at-none)

pub returns-in_err-finish_size_prefixed : goal.returns-in_err-finish_size_prefixed
returns-in_err-finish_size_prefixed c =
    let p = err_from_is_err_and c.from_residual.result c.from_residual.ensures.1 in
    rw (c.if-sized.true, p.1, p.2) (finish_stopped size_first c.args.root c.args.id (λ n. sized_finish_entry n c.args.id) (λ n. refl) c.args.self.now c.in-Ok.root (ap (option_and_then value_distance) c.in-Ok.ensures.0) c.finish_size_prefixed.result c.in_err-finish_size_prefixed.field-0.0 c.finish_size_prefixed.follows.lender-at-none c.in_err-finish_size_prefixed.was
    c.finish_size_prefixed.follows.holds-at-none)

pub returns-in_err-bytes : goal.returns-in_err-bytes
returns-in_err-bytes c =
    let p = err_from_is_err_and c.from_residual-in_err-bytes.result c.from_residual-in_err-bytes.ensures.1 in
    rw (c.if-sized.true, p.1, p.2) (finish_not_given size_first c.args.root c.args.id (λ n. sized_finish_entry n c.args.id) (λ n. refl) c.args.self.now c.in-Ok.root (ap (option_and_then value_distance) c.in-Ok.ensures.0) c.finish_size_prefixed.result c.in_ok-finish_size_prefixed.field-0 c.finish_size_prefixed.follows.lender-at-none c.in_ok-finish_size_prefixed.was
    c.finish_size_prefixed.follows.holds-at-none)

pub returns-in_err-bytes-2 : goal.returns-in_err-bytes-2
returns-in_err-bytes-2 c =
    let p = err_from_is_err_and c.from_residual-in_err-bytes-2.result c.from_residual-in_err-bytes-2.ensures.1 in
    rw (c.if-sized.false, p.1, p.2) (finish_not_given root_first c.args.root c.args.id (λ n. finish_entry n c.args.id) (λ n. refl) c.args.self.now c.in-Ok.root (ap (option_and_then value_distance) c.in-Ok.ensures.0) c.finish.result c.in_ok-finish.field-0 c.finish.follows.lender-at-none c.in_ok-finish.was
    c.finish.follows.holds-at-none)

pub returns-in_err-places : goal.returns-in_err-places
returns-in_err-places c =
    let p = err_from_is_err_and c.from_residual-in_err-places.result c.from_residual-in_err-places.ensures.1 in
    rw (p.1, p.2) (elim c.if-sized.branch as (λ _. Stopped c.args.self.now (finish (front_of c.args.sized) c.args.root c.args.id) OutOfMemory) [
      | then-sized+in_ok-finish_size_prefixed+in_ok-bytes w ↦ rw w.if-sized.true (finish_not_given size_first c.args.root c.args.id (λ n. sized_finish_entry n c.args.id) (λ n. refl) c.args.self.now c.in-Ok.root (ap (option_and_then value_distance) c.in-Ok.ensures.0) w.finish_size_prefixed.result w.in_ok-finish_size_prefixed.field-0 w.finish_size_prefixed.follows.lender-at-none w.in_ok-finish_size_prefixed.was
          w.finish_size_prefixed.follows.holds-at-none)
      | else-sized+in_ok-finish+in_ok-bytes-2 w ↦ rw w.if-sized.false (finish_not_given root_first c.args.root c.args.id (λ n. finish_entry n c.args.id) (λ n. refl) c.args.self.now c.in-Ok.root (ap (option_and_then value_distance) c.in-Ok.ensures.0) w.finish.result w.in_ok-finish.field-0 w.finish.follows.lender-at-none w.in_ok-finish.was
          w.finish.follows.holds-at-none)
    ])

pub returns-in_err-push : goal.returns-in_err-push
returns-in_err-push c =
    let p = err_from_is_err_and c.from_residual-in_err-push.result c.from_residual-in_err-push.ensures.1 in
    rw (p.1, p.2) (elim c.if-sized.branch as (λ _. Stopped c.args.self.now (finish (front_of c.args.sized) c.args.root c.args.id) OutOfMemory) [
      | then-sized+in_ok-finish_size_prefixed+in_ok-bytes w ↦ rw w.if-sized.true (finish_not_given size_first c.args.root c.args.id (λ n. sized_finish_entry n c.args.id) (λ n. refl) c.args.self.now c.in-Ok.root (ap (option_and_then value_distance) c.in-Ok.ensures.0) w.finish_size_prefixed.result w.in_ok-finish_size_prefixed.field-0 w.finish_size_prefixed.follows.lender-at-none w.in_ok-finish_size_prefixed.was
          w.finish_size_prefixed.follows.holds-at-none)
      | else-sized+in_ok-finish+in_ok-bytes-2 w ↦ rw w.if-sized.false (finish_not_given root_first c.args.root c.args.id (λ n. finish_entry n c.args.id) (λ n. refl) c.args.self.now c.in-Ok.root (ap (option_and_then value_distance) c.in-Ok.ensures.0) w.finish.result w.in_ok-finish.field-0 w.finish.follows.lender-at-none w.in_ok-finish.was
          w.finish.follows.holds-at-none)
    ])

pub returns-in_err-push-2 : goal.returns-in_err-push-2
returns-in_err-push-2 c =
    let p = err_from_is_err_and c.from_residual-in_err-push-2.result c.from_residual-in_err-push-2.ensures.1 in
    rw (p.1, p.2) (elim c.if-sized.branch as (λ _. Stopped c.args.self.now (finish (front_of c.args.sized) c.args.root c.args.id) OutOfMemory) [
      | then-sized+in_ok-finish_size_prefixed+in_ok-bytes w ↦ rw w.if-sized.true (finish_not_given size_first c.args.root c.args.id (λ n. sized_finish_entry n c.args.id) (λ n. refl) c.args.self.now c.in-Ok.root (ap (option_and_then value_distance) c.in-Ok.ensures.0) w.finish_size_prefixed.result w.in_ok-finish_size_prefixed.field-0 w.finish_size_prefixed.follows.lender-at-none w.in_ok-finish_size_prefixed.was
          w.finish_size_prefixed.follows.holds-at-none)
      | else-sized+in_ok-finish+in_ok-bytes-2 w ↦ rw w.if-sized.false (finish_not_given root_first c.args.root c.args.id (λ n. finish_entry n c.args.id) (λ n. refl) c.args.self.now c.in-Ok.root (ap (option_and_then value_distance) c.in-Ok.ensures.0) w.finish.result w.in_ok-finish.field-0 w.finish.follows.lender-at-none w.in_ok-finish.was
          w.finish.follows.holds-at-none)
    ])
