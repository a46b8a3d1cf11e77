use Rattle.std.proofs.Common.{◌≡◌, ℕ, suc, ◌+◌, ◌<◌, List, [], ◌∷◌, Some, None, ap, map, length, subst, true, refl, get_or, arith}
use Rattle.std.specs.List.{list_all}
use Rattle.std.proofs.lemmas.List.{map-id}
use Rattle.std.proofs.lemmas.Bool.Decides.{nat_tests}
use Rattle.std.proofs.Math.Facts.{Fits-lt-pow}
use Rattle.planus.specs.Runs.{fits_width}
use Rattle.std.specs.Int.{w16, w32, w64, to_le_bytes}
use Rattle.planus_write.specs.Preparing.{Answers, WritesList}
use Rattle.planus_write.specs.Items.{plain_item}
use Rattle.planus_write.specs.declared.offset.List.{List as ListOf}
use Rattle.planus.specs.Runs.{width_of}
use Rattle.planus.specs.Replays.{numbers_fault}
use Rattle.planus_write.specs.declared.offset.Offset.{Offset}
use Rattle.planus.specs.inner.Names.{offset_named}
use Rattle.planus.specs.inner.Replaying.{Narrowed, WritesValue, Stopped}
use Rattle.planus.specs.Steps as step
use Rattle.planus.specs.declared.replaying.faults.ReplayError.{ReplayError}
use Rattle.planus.specs.declared.replaying.faults.ReplayError.TheVariants.{BadStep}
use Rattle.planus.specs.declared.replaying.faults.Why.TheVariants.{WidthUnknown}
use Rattle.planus.specs.declared.replaying.state.ReplayState.{ReplayState}
use Rattle.planus.proofs.Stepping.{numbers_advanced}
use Rattle.planus.proofs.replaying.state.ReplayState.numbers.Goals as goal

same : {items : List ℕ} (numbers : List ℕ) → map (λ n. n) numbers ≡ items → numbers ≡ items
same {items} numbers are = subst (λ ns. ns ≡ items) (map-id numbers) are

pub returns-in-Some : goal.returns-in-Some
returns-in-Some c =
    let narrowed : Narrowed (λ n. n) w16 c.args.items.now (Some c.in-Some.items) = subst (Narrowed (λ n. n) w16 c.args.items.now) c.in-Some.is c.in_ok-items-in-2.ensures in
    numbers_advanced c.args.width w16 c.args.items.now (ap width_of c.in-2.is) narrowed.0 c.args.self.now (ListOf ℕ) c.write.result c.write.new.self
    (subst (λ xs. WritesValue {A = Offset (ListOf ℕ)} offset_named (WritesList Answers (λ number. plain_item (to_le_bytes w16 number)) 2 2 xs) c.args.self.now c.write.result c.write.new.self) (same c.in-Some.items.items narrowed.1) c.write.ensures)

pub returns-in-Some-2 : goal.returns-in-Some-2
returns-in-Some-2 c =
    let narrowed : Narrowed (λ n. n) w32 c.args.items.now (Some c.in-Some-2.items) = subst (Narrowed (λ n. n) w32 c.args.items.now) c.in-Some-2.is c.in_ok-items-in-4.ensures in
    numbers_advanced c.args.width w32 c.args.items.now (ap width_of c.in-4.is) narrowed.0 c.args.self.now (ListOf ℕ) c.write-in-Some-2.result c.write-in-Some-2.new.self
    (subst (λ xs. WritesValue {A = Offset (ListOf ℕ)} offset_named (WritesList Answers (λ number. plain_item (to_le_bytes w32 number)) 4 4 xs) c.args.self.now c.write-in-Some-2.result c.write-in-Some-2.new.self) (same c.in-Some-2.items.items narrowed.1) c.write-in-Some-2.ensures)

all_fit : (numbers : List ℕ) → ((k : ℕ) → get_or numbers k 0 < 18446744073709551616) → list_all (fits_width w64) numbers ≡ true
all_fit [] fits = refl
all_fit (number ∷ numbers) fits = rw (below (fits 0)) (all_fit numbers (λ k. fits (suc k)))
  where
    below : number < 18446744073709551616 → fits_width w64 number ≡ true
    below lt = grind (arith, nat_tests, lt)

pub u64s-requires : goal.u64s-requires
u64s-requires c = all_fit c.args.items.now (λ k. Fits-lt-pow (c.type_inv.items k))

pub returns-in-8 : goal.returns-in-8
returns-in-8 c = rw c.in-8.is c.u64s.ensures

no_width : (width : ℕ) → (width ≡ 2 → ⊥) → (width ≡ 4 → ⊥) → (width ≡ 8 → ⊥) → width_of width ≡ None
no_width width not_2 not_4 not_8 = grind (arith, nat_tests, not_2, not_4, not_8)

unknown : (old : ReplayState) (width : ℕ) (items : List ℕ) (error : ReplayError) → width_of width ≡ None → error ≡ BadStep (old.first + length old.offsets.items) WidthUnknown
    → Stopped old (step.numbers width items) error
unknown old width items error none is = rw is (refl, ap (λ known. numbers_fault known items) none)

pub returns-in_default : goal.returns-in_default
returns-in_default c =
    unknown c.args.self.now c.args.width c.args.items.now c.bad_step-in_default.result (no_width c.args.width (λ e. omega (arith, e)) (λ e. omega (arith, e)) (λ e. omega (arith, e))) c.bad_step-in_default.ensures
