use Rattle.std.proofs.Common.{◌++◌, ◌∷◌, [], sym, ◌∙◌, ◌<◌, ◌≤◌, Ok, Err, map, take, subst}
use Rattle.planus.specs.Slots.{size_fault}
use Rattle.planus.proofs.Found.{takes_item}
use Rattle.std.proofs.lemmas.Result.{err_from_is_err_and}
use Rattle.planus.specs.inner.Prepared.{field_is}
use Rattle.planus.specs.Steps.{content_of, bare_field}
use Rattle.planus_read.specs.Aligned.{field_alignment}
use Rattle.planus.specs.declared.replaying.faults.Why.TheVariants.{RisingAlignment}
use Rattle.planus.proofs.Declaring as proof
use Rattle.planus.proofs.replaying.state.ReplayState.declared.Goals as goal
use Rattle.planus.proofs.replaying.state.ReplayState.declared.Goals.{then-fits, else-fits}

pub returns-in_err-check_slot : goal.returns-in_err-check_slot
returns-in_err-check_slot c =
    let fields = c.args.fields.now in let i = c.loop-index.index in let x = c.index-fields-index.result in
    let p = err_from_is_err_and c.from_residual.result c.from_residual.ensures.1 in
    rw (p.1, p.2) (proof.slot_refused c.args.self.now fields i x (takes_item fields i x c.loop-index-test.true c.index-fields-index.is) c.fits_table-fits.result c.loop-index.writer c.loop-index.before c.loop-index.invariant
    c.in_err-check_slot.field-0.0 c.in_err-check_slot.ensures)

pub returns-in_err-prepared : goal.returns-in_err-prepared
returns-in_err-prepared c =
    let fields = c.args.fields.now in let i = c.loop-index.index in let x = c.index-fields-index.result in
    let p = err_from_is_err_and c.from_residual-in_err-prepared.result c.from_residual-in_err-prepared.ensures.1 in
    rw (p.1, p.2) (proof.content_refused c.args.self.now fields i x (takes_item fields i x c.loop-index-test.true c.index-fields-index.is) c.fits_table-fits.result c.loop-index.writer c.loop-index.before c.loop-index.invariant
    c.in_ok-check_slot.ensures c.in_err-prepared.field-0.0
    (proof.prepared_here c.args.self.now c.earlier.result (content_of x.value) (Err c.in_err-prepared.field-0.0) c.earlier.ensures.first c.earlier.ensures.offsets c.in_err-prepared.ensures))

pub returns-then-before-alignment : goal.returns-then-before-alignment
returns-then-before-alignment c =
    let fields = c.args.fields.now in let i = c.loop-index.index in let x = c.index-fields-index.result in
    let made = proof.prepared_here c.args.self.now c.earlier.result (content_of x.value) (Ok c.in_ok-prepared.prepared) c.earlier.ensures.first c.earlier.ensures.offsets c.in_ok-prepared.ensures in
    proof.refused c.args.self.now fields i x (takes_item fields i x c.loop-index-test.true c.index-fields-index.is) c.fits_table-fits.result c.loop-index.writer c.loop-index.before c.loop-index.invariant RisingAlignment
    (proof.rises c.args.self.now c.requires (map bare_field (take i fields)) c.fits_table-fits.result c.loop-index.writer c.loop-index.before c.loop-index.invariant (bare_field x) (field_is c.in_ok-prepared.prepared) c.in_ok-check_slot.ensures
    made.0 made.1 (subst (λ a. c.loop-index.before < a) c.alignment.ensures c.if-before-alignment.true))

pub declare-requires-clause-unused : goal.declare-requires-clause-unused
declare-requires-clause-unused c =
    let fields = c.args.fields.now in let i = c.loop-index.index in let x = c.index-fields-index.result in
    let made = proof.prepared_here c.args.self.now c.earlier.result (content_of x.value) (Ok c.in_ok-prepared.prepared) c.earlier.ensures.first c.earlier.ensures.offsets c.in_ok-prepared.ensures in
    proof.unused c.args.self.now c.requires (map bare_field (take i fields)) c.fits_table-fits.result c.loop-index.writer c.loop-index.before c.loop-index.invariant (bare_field x) (field_is c.in_ok-prepared.prepared) c.in_ok-check_slot.ensures
    made.0 made.1 (subst (λ a. a ≤ c.loop-index.before) c.alignment.ensures c.if-before-alignment.false) c.if-fits.true

pub declare-requires-clause-fits : goal.declare-requires-clause-fits
declare-requires-clause-fits c =
    let fields = c.args.fields.now in let i = c.loop-index.index in let x = c.index-fields-index.result in
    let made = proof.prepared_here c.args.self.now c.earlier.result (content_of x.value) (Ok c.in_ok-prepared.prepared) c.earlier.ensures.first c.earlier.ensures.offsets c.in_ok-prepared.ensures in
    let fit = proof.is_none_of (size_fault (map bare_field fields)) (sym c.fits_table-fits.ensures ∙ c.if-fits.true) in
    let room = proof.room_left c.args.self.now fields i x (takes_item fields i x c.loop-index-test.true c.index-fields-index.is) c.fits_table-fits.result c.loop-index.writer c.loop-index.before c.loop-index.invariant fit in
    proof.small_enough c.args.self.now c.requires (map bare_field (take i fields)) c.fits_table-fits.result c.loop-index.writer c.loop-index.before c.loop-index.invariant (bare_field x) (field_is c.in_ok-prepared.prepared) c.in_ok-check_slot.ensures
    made.0 made.1 (subst (λ a. a ≤ c.loop-index.before) c.alignment.ensures c.if-before-alignment.false) c.if-fits.true room

pub loop-index-preserved : goal.loop-index-preserved
loop-index-preserved c =
    let fields = c.args.fields.now in let i = c.loop-index.index in let x = c.index-fields-index.result in
    let made = proof.prepared_here c.args.self.now c.earlier.result (content_of x.value) (Ok c.in_ok-prepared.prepared) c.earlier.ensures.first c.earlier.ensures.offsets c.in_ok-prepared.ensures in
    let low = subst (λ a. a ≤ c.loop-index.before) c.alignment.ensures c.if-before-alignment.false in
    proof.declared_next c.args.self.now fields i x (takes_item fields i x c.loop-index-test.true c.index-fields-index.is) c.fits_table-fits.result c.if-fits.writer c.alignment-before.result (field_alignment (field_is c.in_ok-prepared.prepared)) c.alignment-before.ensures
    (elim c.if-fits.branch as (λ _. proof.Declares c.args.self.now (map bare_field (take i fields) ++ bare_field x ∷ []) c.fits_table-fits.result c.if-fits.writer (field_alignment (field_is c.in_ok-prepared.prepared))) [
      | then-fits w ↦
          subst (λ writer. proof.Declares c.args.self.now (map bare_field (take i fields) ++ bare_field x ∷ []) c.fits_table-fits.result writer (field_alignment (field_is c.in_ok-prepared.prepared))) (sym w.writer-is)
          (proof.declares c.args.self.now c.requires (map bare_field (take i fields)) c.fits_table-fits.result c.loop-index.writer c.loop-index.before c.loop-index.invariant (bare_field x) (field_is c.in_ok-prepared.prepared) c.in_ok-check_slot.ensures
          made.0 made.1 low w.if-fits.true w.declare.new.writer w.declare.ensures.entered w.declare.ensures.told)
      | else-fits w ↦
          subst (λ writer. proof.Declares c.args.self.now (map bare_field (take i fields) ++ bare_field x ∷ []) c.fits_table-fits.result writer (field_alignment (field_is c.in_ok-prepared.prepared))) (sym w.writer-is)
          (proof.leaves c.args.self.now c.requires (map bare_field (take i fields)) c.fits_table-fits.result c.loop-index.writer c.loop-index.before c.loop-index.invariant (bare_field x) (field_is c.in_ok-prepared.prepared) c.in_ok-check_slot.ensures
          made.0 made.1 low w.if-fits.false)
    ])

pub returns-then-not-fits : goal.returns-then-not-fits
returns-then-not-fits c =
    proof.too_big c.args.self.now (map bare_field c.args.fields.now) c.fits_table-fits.result c.loop-index.writer c.loop-index.before
    (proof.at_the_end c.args.self.now c.args.fields.now c.loop-index.index c.fits_table-fits.result c.loop-index.writer c.loop-index.before c.loop-index-test.false c.loop-index.invariant)
    c.fits_table-fits.ensures c.if-not-fits.true

pub returns : goal.returns
returns c =
    proof.all_declared c.args.self.now (map bare_field c.args.fields.now) c.fits_table-fits.result c.loop-index.writer c.loop-index.before
    (proof.at_the_end c.args.self.now c.args.fields.now c.loop-index.index c.fits_table-fits.result c.loop-index.writer c.loop-index.before c.loop-index-test.false c.loop-index.invariant)
    c.fits_table-fits.ensures c.if-not-fits.false
