use Rattle.planus.proofs.TwoParts.{first_declared, second_declared, both_apart, both_sizes}
use Rattle.planus.proofs.tables.write.prepared_at.Tuple2PreparedFields.declare.Goals as goal

pub declare-requires : goal.declare-requires
declare-requires g c =
    let may = first_declared (g.W.TableWrite.at c.args.writer.now) g.W.TableWrite.room g.F.PreparedFields.all g.S.PreparedFields.all
    (record { slots = c.requires.slots; unused = c.requires.unused; fits = c.requires.fits }) in
    record {
      small = c.requires.small;
      slots = may.slots;
      unused = may.unused;
      fits = may.fits;
    }

pub declare-requires-2 : goal.declare-requires-2
declare-requires-2 g c =
    let may = second_declared (g.W.TableWrite.at c.args.writer.now) (g.W.TableWrite.at c.declare.new.writer)
    g.W.TableWrite.room g.F.PreparedFields.all g.S.PreparedFields.all
    (record { slots = c.requires.slots; unused = c.requires.unused; fits = c.requires.fits })
    c.declare.ensures.others c.declare.ensures.size in
    record {
      small = c.requires.small;
      slots = may.slots;
      unused = may.unused;
      fits = may.fits;
    }

pub returns-clause-others : goal.returns-clause-others
returns-clause-others g c = λ other apart unused.
    let parts = both_apart other g.F.PreparedFields.all g.S.PreparedFields.all apart in
    c.declare-2.ensures.others other parts.1 (c.declare.ensures.others other parts.0 unused)

pub returns-clause-size : goal.returns-clause-size
returns-clause-size g c =
    both_sizes _ _ _ g.F.PreparedFields.all g.S.PreparedFields.all c.declare.ensures.size c.declare-2.ensures.size
