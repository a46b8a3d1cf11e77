-- Room for parts.
use Rattle.std.proofs.Common.{◌≡◌, ℕ, ◌+◌, ◌-◌, ◌<◌, Bool, true, false, List, ◌∷◌, ◌++◌, replicate, ap, subst, sym, ◌∙◌, arith}
use Rattle.planus_back.specs.Descriptions.{Describes}
use Rattle.planus_back.specs.Padding.{promise_of}
use Rattle.planus_back.specs.Promises.{Promise}
use Rattle.planus_write.specs.inner.Backed.{Backed, DescribedBy, Plans, Enlarges, Pads, MakesRoom, LacksRoom}
use Rattle.planus_write.specs.inner.Sharing.{LacksSharedRoom}
use Rattle.planus_write.specs.declared.backing.Plan.{Plan}
use Rattle.planus_write.specs.declared.errors.BuildError.{BuildError}
use Rattle.planus_write.specs.declared.errors.BuildError.TheVariants.{OutOfMemory, TooLarge}

pub makes_room : (size alignment : ℕ) (old mid new : Backed) (plan : Plan) → Plans size alignment old plan → Enlarges (plan.padding + size) old mid → Pads plan mid new
    → MakesRoom size alignment old plan.place new
makes_room size alignment old mid new plan plans larger pads =
    let room : new.room ≡ mid.room - plan.padding = ap (λ (b : Backed). b.room) pads in
    record {
      padding = plan.padding;
      is_place = plans.is_place;
      below = plans.below;
      fits = plans.fits;
      bytes = ap (λ (b : Backed). b.bytes) pads ∙ ap (λ (b : Backed). replicate plan.padding 0 ++ b.bytes) larger.unchanged;
      size_fits = omega (arith, larger.enough);
      room = λ within. omega (arith, larger.enough, larger.as_was within);
      least = plans.least;
      kept = plans.kept;
      described = subst (λ (b : Backed). (promises : List Promise) → DescribedBy old promises → Describes plan.place b.delayed b.mask (promise_of plan.place alignment ∷ promises)) (sym pads) plans.described;
    }

pub lacks_memory : (error : BuildError) (size alignment : ℕ) (old : Backed) (plan : Plan) → error ≡ OutOfMemory → Plans size alignment old plan → old.room < plan.padding + size
    → LacksRoom size alignment old error
lacks_memory error size alignment old plan is plans far =
    subst (λ (e : BuildError). LacksRoom size alignment old e) (sym is) (λ promises described. (plan.padding, plans.least promises described, (rw plans.is_place at plans.fits, far)))

pub is_too_large : (error : BuildError) (size alignment : ℕ) (old : Backed) → error ≡ TooLarge → LacksRoom size alignment old TooLarge → LacksRoom size alignment old error
is_too_large error size alignment old is lacks = subst (λ (e : BuildError). LacksRoom size alignment old e) (sym is) lacks

pub lacks_shared : (error : BuildError) (on : Bool) (size alignment : ℕ) (old new : Backed) → new ≡ old → LacksRoom size alignment old error
    → LacksSharedRoom error on size alignment old new
lacks_shared TooLarge on size alignment old new same lacks = (same, lacks)
lacks_shared OutOfMemory false size alignment old new same lacks = (same, lacks)
lacks_shared OutOfMemory true size alignment old new same lacks =
    let room : new.room ≡ old.room = ap (λ (b : Backed). b.room) same in
    (omega arith, same ∙ ap (λ (n : ℕ). record old { room = n }) (sym room), λ promises described. let l = lacks promises described in (l.0, l.1, l.2.0))
