use Rattle.std.proofs.Common.{subst, refl, None, ◌≡◌, [], sym, true, rules, map}
use Rattle.planus_dump.specs.Dumped.{events_of}
use Rattle.planus_dump.specs.Schemas.{is_good}
use Rattle.planus_dump.specs.inner.Shown.{event_of}
use Rattle.planus_dump.specs.declared.end.End.TheVariants.{Whole, TooDeep, TooManyLines, TooManyBytes}
use Rattle.planus_dump.proofs.Walked.{kept}
use Rattle.planus_dump.proofs.Feeds.{Answered, all_lines, too_deep, too_many, not_too_long}
use Rattle.planus_dump.proofs.FirstLine.{begins_with_line}
use Rattle.planus_dump.proofs.dumps.dump.Goals as goal

pub returns-in_ok-lines-in-Whole : goal.returns-in_ok-lines-in-Whole
returns-in_ok-lines-in-Whole c =
    let es = events_of c.args.schema.now c.args.bytes.now in
    let out = c.walk_from_root.new.out in
    let answered : Answered [] None es c.args.budget (map event_of out.lines.items) Whole
    = subst (Answered [] None es c.args.budget (map event_of out.lines.items)) c.in-Whole.is
    (kept _ c.new.result c.new-out.result out c.args.budget None es c.new.ensures.items c.new-out.ensures (c.in_ok-walk_from_root.ensures es refl)) in
    let good : is_good c.args.schema.now ≡ true = search rules in
    (good, all_lines es c.args.budget (map event_of c.walk_from_root.new.out.lines.items) c.in_ok-lines-in-Whole.lines.items answered c.in_ok-lines-in-Whole.ensures)

pub returns-in-TooDeep : goal.returns-in-TooDeep
returns-in-TooDeep c =
    let es = events_of c.args.schema.now c.args.bytes.now in
    let out = c.walk_from_root.new.out in
    let answered : Answered [] None es c.args.budget (map event_of out.lines.items) TooDeep
    = subst (Answered [] None es c.args.budget (map event_of out.lines.items)) c.in-TooDeep.is
    (kept _ c.new.result c.new-out.result out c.args.budget None es c.new.ensures.items c.new-out.ensures (c.in_ok-walk_from_root.ensures es refl)) in
    let good : is_good c.args.schema.now ≡ true = search rules in
    (good, too_deep es c.args.budget (map event_of c.walk_from_root.new.out.lines.items) answered)

pub returns-in-TooManyLines : goal.returns-in-TooManyLines
returns-in-TooManyLines c =
    let es = events_of c.args.schema.now c.args.bytes.now in
    let out = c.walk_from_root.new.out in
    let answered : Answered [] None es c.args.budget (map event_of out.lines.items) TooManyLines
    = subst (Answered [] None es c.args.budget (map event_of out.lines.items)) c.in-TooManyLines.is
    (kept _ c.new.result c.new-out.result out c.args.budget None es c.new.ensures.items c.new-out.ensures (c.in_ok-walk_from_root.ensures es refl)) in
    let good : is_good c.args.schema.now ≡ true = search rules in
    (good, too_many es c.args.budget (map event_of c.walk_from_root.new.out.lines.items) answered)

pub returns-in-TooManyBytes : goal.returns-in-TooManyBytes
returns-in-TooManyBytes c =
    let es = events_of c.args.schema.now c.args.bytes.now in
    let out = c.walk_from_root.new.out in
    let answered : Answered [] None es c.args.budget (map event_of out.lines.items) TooManyBytes
    = subst (Answered [] None es c.args.budget (map event_of out.lines.items)) c.in-TooManyBytes.is
    (kept _ c.new.result c.new-out.result out c.args.budget None es c.new.ensures.items c.new-out.ensures (c.in_ok-walk_from_root.ensures es refl)) in
    absurd (not_too_long es c.args.budget (map event_of c.walk_from_root.new.out.lines.items) answered)

pub returns-then-budget-eq0 : goal.returns-then-budget-eq0
returns-then-budget-eq0 c =
    let good : is_good c.args.schema.now ≡ true = search rules in
    let first = begins_with_line c.args.schema.now c.args.bytes.now good in
    (good, ([], first.0, first.1, record { front = []; split = first.2; shown = tt }, first.3, sym c.if-budget-eq0.true))
