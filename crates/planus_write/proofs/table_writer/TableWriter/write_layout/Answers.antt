use Rattle.std.proofs.Common.{ℕ, refl, ◌≡◌, ◌+◌, ◌-◌, ◌<◌, ◌≤◌, ◌^◌, max, length, arith, rules, subst, sym, [], ◌∷◌, ◌++◌}
use Rattle.planus_read.specs.Bytes.{BytesStand}
use Rattle.planus_read.specs.Plain.{IsLayout}
use Rattle.planus_write.specs.Tables.{Declared}
use Rattle.planus_write.specs.TableWriting.{Writer, WasTold, slot_position}
use Rattle.std.proofs.lemmas.Nat.{pow_pos}
use Rattle.planus_back.specs.Promises.{IsPowerOfTwo}
use Rattle.planus_write.specs.View.{writer_of}
use Rattle.planus_write.proofs.ToldTables.{told_more, greater_power}
use Rattle.planus_write.proofs.table_writer.TableWriter.write_layout.Goals as goal

positive : (size alignment : ℕ) → IsLayout size alignment → 0 < alignment
positive size alignment layout =
    let power = layout.power in
    let some : 0 < 2 ^ power.0 = pow_pos power.0 in
    let same : alignment ≡ 2 ^ power.0 = power.2 in
    omega (arith, some, same)

pub returns-clause-told : goal.returns-clause-told
returns-clause-told g c = λ declared told.
    let long : length c.self.inside.vtable ≡ g.row.N = search rules in
    let old : Writer = writer_of c.self.inside in
    let one : Declared = record { slot = c.args.slot; size = c.args.size; alignment = c.args.alignment } in
    let new : Writer = record { vtable = c.put_pair.new.bytes; vtable_size = c.max-self-inside.result; object_size = c.self.inside.object_size + c.args.size; mask = c.max-self-inside-2.result } in
    let within = c.requires.inside in
    let fits : old.object_size + c.args.size ≤ 65535 = subst (λ (writer : Writer). writer.object_size + c.args.size ≤ 65535) (sym c.self.view_is) c.requires.fits in
    let unused : BytesStand old.vtable (slot_position c.args.slot) (0 ∷ 0 ∷ []) = subst (λ (writer : Writer). BytesStand writer.vtable (slot_position c.args.slot) (0 ∷ 0 ∷ [])) (sym c.self.view_is) c.requires.unused in
    let before : WasTold old declared = subst (λ (writer : Writer). WasTold writer declared) (sym c.self.view_is) told in
    let mask : new.mask ≡ max old.mask (one.alignment - 1) = c.max-self-inside-2.ensures in
    told_more old one new (omega (arith, within, long)) unused fits (positive c.args.size c.args.alignment c.requires.layout) c.put_pair.ensures c.max-self-inside.ensures (refl) mask declared before

pub invariant_of-self : goal.invariant_of-self
invariant_of-self g c =
    let some = positive c.args.size c.args.alignment c.requires.layout in
    let mask = c.max-self-inside-2.ensures in
    let mask_is : max (c.self.inside.mask + 1) c.args.alignment ≡ c.max-self-inside-2.result + 1 = omega (arith, some, mask) in
    let small = c.self.invariant.small in
    let fits : c.self.inside.object_size + c.args.size ≤ 65535 = subst (λ (writer : Writer). writer.object_size + c.args.size ≤ 65535) (sym c.self.view_is) c.requires.fits in
    let vtable = c.max-self-inside.ensures in
    let vtable_small = c.self.invariant.vtable_small in
    let within = c.requires.small in
    let bound = c.self.invariant.bound in
    let low = c.requires.low in
    let whole = c.self.invariant.whole in
    let inside = c.requires.inside in
    let sizes = c.self.invariant.sizes in
    let one : Declared = record { slot = c.args.slot; size = c.args.size; alignment = c.args.alignment } in
    record {
      small = omega (arith, fits);
      vtable_small = omega (arith, vtable, vtable_small, within);
      power = subst IsPowerOfTwo mask_is (greater_power (c.self.inside.mask + 1) c.args.alignment c.self.invariant.power (c.requires.layout.power.0, c.requires.layout.power.2));
      bound = omega (arith, mask_is, bound, low);
      whole = omega (arith, whole);
      sizes = omega (arith, sizes, vtable);
      inside = λ enough. (let old = c.self.invariant.inside enough in omega (arith, vtable, old, inside));
      told = λ enough. (let before = c.self.invariant.told enough in (
        before.0 ++ one ∷ [],
        returns-clause-told g c before.0 (subst (λ (writer : Writer). WasTold writer before.0) c.self.view_is before.1),
      ));
    }
