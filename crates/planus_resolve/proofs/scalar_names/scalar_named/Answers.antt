use Rattle.std.proofs.Common.{refl, sym, ap, ◌∙◌}
use Rattle.std.specs.Str.{bytes_eq}
use Rattle.planus_schema.specs.Numbers.{scalar_named}
use Rattle.planus_resolve.proofs.scalar_names.scalar_named.Goals as goal

pub returns-then-eq : goal.returns-then-eq
unfolding scalar_named
returns-then-eq c = rw (ap (bytes_eq c.args.name.now) (sym c.as_slice.ensures) ∙ sym c.eq.ensures ∙ c.if-eq.true) refl

pub returns-then-is_either : goal.returns-then-is_either
unfolding scalar_named
returns-then-is_either c = rw (
  (ap (bytes_eq c.args.name.now) (sym c.as_slice.ensures) ∙ sym c.eq.ensures ∙ c.if-eq.false),
  (sym c.is_either.ensures ∙ c.if-is_either.true),
) refl

pub returns-then-is_either-2 : goal.returns-then-is_either-2
unfolding scalar_named
returns-then-is_either-2 c = rw (
  (ap (bytes_eq c.args.name.now) (sym c.as_slice.ensures) ∙ sym c.eq.ensures ∙ c.if-eq.false),
  (sym c.is_either.ensures ∙ c.if-is_either.false),
  (sym c.is_either-else-is_either.ensures ∙ c.if-is_either-2.true),
) refl

pub returns-then-is_either-3 : goal.returns-then-is_either-3
unfolding scalar_named
returns-then-is_either-3 c = rw (
  (ap (bytes_eq c.args.name.now) (sym c.as_slice.ensures) ∙ sym c.eq.ensures ∙ c.if-eq.false),
  (sym c.is_either.ensures ∙ c.if-is_either.false),
  (sym c.is_either-else-is_either.ensures ∙ c.if-is_either-2.false),
  (sym c.is_either-else-is_either-2.ensures ∙ c.if-is_either-3.true),
) refl

pub returns-then-is_either-4 : goal.returns-then-is_either-4
unfolding scalar_named
returns-then-is_either-4 c = rw (
  (ap (bytes_eq c.args.name.now) (sym c.as_slice.ensures) ∙ sym c.eq.ensures ∙ c.if-eq.false),
  (sym c.is_either.ensures ∙ c.if-is_either.false),
  (sym c.is_either-else-is_either.ensures ∙ c.if-is_either-2.false),
  (sym c.is_either-else-is_either-2.ensures ∙ c.if-is_either-3.false),
  (sym c.is_either-else-is_either-3.ensures ∙ c.if-is_either-4.true),
) refl

pub returns-then-is_either-5 : goal.returns-then-is_either-5
unfolding scalar_named
returns-then-is_either-5 c = rw (
  (ap (bytes_eq c.args.name.now) (sym c.as_slice.ensures) ∙ sym c.eq.ensures ∙ c.if-eq.false),
  (sym c.is_either.ensures ∙ c.if-is_either.false),
  (sym c.is_either-else-is_either.ensures ∙ c.if-is_either-2.false),
  (sym c.is_either-else-is_either-2.ensures ∙ c.if-is_either-3.false),
  (sym c.is_either-else-is_either-3.ensures ∙ c.if-is_either-4.false),
  (sym c.is_either-else-is_either-4.ensures ∙ c.if-is_either-5.true),
) refl

pub returns-then-is_either-6 : goal.returns-then-is_either-6
unfolding scalar_named
returns-then-is_either-6 c = rw (
  (ap (bytes_eq c.args.name.now) (sym c.as_slice.ensures) ∙ sym c.eq.ensures ∙ c.if-eq.false),
  (sym c.is_either.ensures ∙ c.if-is_either.false),
  (sym c.is_either-else-is_either.ensures ∙ c.if-is_either-2.false),
  (sym c.is_either-else-is_either-2.ensures ∙ c.if-is_either-3.false),
  (sym c.is_either-else-is_either-3.ensures ∙ c.if-is_either-4.false),
  (sym c.is_either-else-is_either-4.ensures ∙ c.if-is_either-5.false),
  (sym c.is_either-else-is_either-5.ensures ∙ c.if-is_either-6.true),
) refl

pub returns-then-is_either-7 : goal.returns-then-is_either-7
unfolding scalar_named
returns-then-is_either-7 c = rw (
  (ap (bytes_eq c.args.name.now) (sym c.as_slice.ensures) ∙ sym c.eq.ensures ∙ c.if-eq.false),
  (sym c.is_either.ensures ∙ c.if-is_either.false),
  (sym c.is_either-else-is_either.ensures ∙ c.if-is_either-2.false),
  (sym c.is_either-else-is_either-2.ensures ∙ c.if-is_either-3.false),
  (sym c.is_either-else-is_either-3.ensures ∙ c.if-is_either-4.false),
  (sym c.is_either-else-is_either-4.ensures ∙ c.if-is_either-5.false),
  (sym c.is_either-else-is_either-5.ensures ∙ c.if-is_either-6.false),
  (sym c.is_either-else-is_either-6.ensures ∙ c.if-is_either-7.true),
) refl

pub returns-then-is_either-8 : goal.returns-then-is_either-8
unfolding scalar_named
returns-then-is_either-8 c = rw (
  (ap (bytes_eq c.args.name.now) (sym c.as_slice.ensures) ∙ sym c.eq.ensures ∙ c.if-eq.false),
  (sym c.is_either.ensures ∙ c.if-is_either.false),
  (sym c.is_either-else-is_either.ensures ∙ c.if-is_either-2.false),
  (sym c.is_either-else-is_either-2.ensures ∙ c.if-is_either-3.false),
  (sym c.is_either-else-is_either-3.ensures ∙ c.if-is_either-4.false),
  (sym c.is_either-else-is_either-4.ensures ∙ c.if-is_either-5.false),
  (sym c.is_either-else-is_either-5.ensures ∙ c.if-is_either-6.false),
  (sym c.is_either-else-is_either-6.ensures ∙ c.if-is_either-7.false),
  (sym c.is_either-else-is_either-7.ensures ∙ c.if-is_either-8.true),
) refl

pub returns-then-is_either-9 : goal.returns-then-is_either-9
unfolding scalar_named
returns-then-is_either-9 c = rw (
  (ap (bytes_eq c.args.name.now) (sym c.as_slice.ensures) ∙ sym c.eq.ensures ∙ c.if-eq.false),
  (sym c.is_either.ensures ∙ c.if-is_either.false),
  (sym c.is_either-else-is_either.ensures ∙ c.if-is_either-2.false),
  (sym c.is_either-else-is_either-2.ensures ∙ c.if-is_either-3.false),
  (sym c.is_either-else-is_either-3.ensures ∙ c.if-is_either-4.false),
  (sym c.is_either-else-is_either-4.ensures ∙ c.if-is_either-5.false),
  (sym c.is_either-else-is_either-5.ensures ∙ c.if-is_either-6.false),
  (sym c.is_either-else-is_either-6.ensures ∙ c.if-is_either-7.false),
  (sym c.is_either-else-is_either-7.ensures ∙ c.if-is_either-8.false),
  (sym c.is_either-else-is_either-8.ensures ∙ c.if-is_either-9.true),
) refl

pub returns-then-is_either-10 : goal.returns-then-is_either-10
unfolding scalar_named
returns-then-is_either-10 c = rw (
  (ap (bytes_eq c.args.name.now) (sym c.as_slice.ensures) ∙ sym c.eq.ensures ∙ c.if-eq.false),
  (sym c.is_either.ensures ∙ c.if-is_either.false),
  (sym c.is_either-else-is_either.ensures ∙ c.if-is_either-2.false),
  (sym c.is_either-else-is_either-2.ensures ∙ c.if-is_either-3.false),
  (sym c.is_either-else-is_either-3.ensures ∙ c.if-is_either-4.false),
  (sym c.is_either-else-is_either-4.ensures ∙ c.if-is_either-5.false),
  (sym c.is_either-else-is_either-5.ensures ∙ c.if-is_either-6.false),
  (sym c.is_either-else-is_either-6.ensures ∙ c.if-is_either-7.false),
  (sym c.is_either-else-is_either-7.ensures ∙ c.if-is_either-8.false),
  (sym c.is_either-else-is_either-8.ensures ∙ c.if-is_either-9.false),
  (sym c.is_either-else-is_either-9.ensures ∙ c.if-is_either-10.true),
) refl

pub returns-else-is_either-10 : goal.returns-else-is_either-10
unfolding scalar_named
returns-else-is_either-10 c = rw (
  (ap (bytes_eq c.args.name.now) (sym c.as_slice.ensures) ∙ sym c.eq.ensures ∙ c.if-eq.false),
  (sym c.is_either.ensures ∙ c.if-is_either.false),
  (sym c.is_either-else-is_either.ensures ∙ c.if-is_either-2.false),
  (sym c.is_either-else-is_either-2.ensures ∙ c.if-is_either-3.false),
  (sym c.is_either-else-is_either-3.ensures ∙ c.if-is_either-4.false),
  (sym c.is_either-else-is_either-4.ensures ∙ c.if-is_either-5.false),
  (sym c.is_either-else-is_either-5.ensures ∙ c.if-is_either-6.false),
  (sym c.is_either-else-is_either-6.ensures ∙ c.if-is_either-7.false),
  (sym c.is_either-else-is_either-7.ensures ∙ c.if-is_either-8.false),
  (sym c.is_either-else-is_either-8.ensures ∙ c.if-is_either-9.false),
  (sym c.is_either-else-is_either-9.ensures ∙ c.if-is_either-10.false),
) refl
