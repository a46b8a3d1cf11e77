use Rattle.std.proofs.Common.{arith, sym, [], ◌∷◌}
use Rattle.std.proofs.lemmas.Bool.{eqb-false}
use Rattle.planus_write.specs.Tables.{Declared}
use Rattle.planus.proofs.FieldLists.{total_append}
use Rattle.planus.proofs.RuledTables.{slots_append, slots_parts, apart_append, unused_parts}
use Rattle.planus.proofs.tables.line.field_chain.FieldChainPreparedFields.declare.Goals as goal

pub declare-requires : goal.declare-requires
declare-requires g c =
    let one : Declared = record {
      slot = g.row.SLOT;
      size = g.P.Primitive.SIZE;
      alignment = g.P.Primitive.ALIGNMENT;
    } in
    let all = g.B.PreparedFields.all in
    let slots = slots_append g.W.TableWrite.room all (one ∷ []) c.requires.slots in
    let unused = unused_parts (g.W.TableWrite.at c.args.writer.now) all (one ∷ []) c.requires.unused in
    let total = total_append all (one ∷ []) in
    let fits = c.requires.fits in
    record {
      small = c.requires.small;
      slots = slots.first;
      unused = unused.0;
      fits = omega (arith, fits, total);
    }

pub declare_if-requires : goal.declare_if-requires
declare_if-requires g c =
    let one : Declared = record {
      slot = g.row.SLOT;
      size = g.P.Primitive.SIZE;
      alignment = g.P.Primitive.ALIGNMENT;
    } in
    let all = g.B.PreparedFields.all in
    let slots = slots_append g.W.TableWrite.room all (one ∷ []) c.requires.slots in
    let inside = (slots_parts g.W.TableWrite.room one [] slots.second).0 in
    let unused = unused_parts (g.W.TableWrite.at c.args.writer.now) all (one ∷ []) c.requires.unused in
    let total = total_append all (one ∷ []) in
    let fits = c.requires.fits in
    let size = c.declare.ensures.size in record {
      inside = inside;
      small = c.requires.small;
      unused = c.declare.ensures.others g.row.SLOT slots.apart.0 unused.1.0;
      fits = omega (arith, fits, total, size);
    }

pub returns-clause-others : goal.returns-clause-others
returns-clause-others g c = λ other apart unused.
    let one : Declared = record {
      slot = g.row.SLOT;
      size = g.P.Primitive.SIZE;
      alignment = g.P.Primitive.ALIGNMENT;
    } in
    let parts = apart_append other g.B.PreparedFields.all (one ∷ []) apart in
    c.declare_if.ensures.others other (λ same. eqb-false g.row.SLOT other parts.1.0 (sym same))
    (c.declare.ensures.others other parts.0 unused)

pub returns-clause-size : goal.returns-clause-size
returns-clause-size g c =
    let one : Declared = record {
      slot = g.row.SLOT;
      size = g.P.Primitive.SIZE;
      alignment = g.P.Primitive.ALIGNMENT;
    } in
    let total = total_append g.B.PreparedFields.all (one ∷ []) in
    let first = c.declare.ensures.size in
    let second = c.declare_if.ensures.size in
    omega (arith, total, first, second)
