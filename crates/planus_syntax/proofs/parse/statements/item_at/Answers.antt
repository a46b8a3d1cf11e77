use Rattle.std.proofs.Common.{refl, sym, ◌∙◌}
use Rattle.planus_syntax.specs.Reading.{item_at}
use Rattle.planus_syntax.proofs.Steps.{fails_here, reads_on, first_way, other_way, fails_first, fails_other, gives_first, gives_other}
use Rattle.planus_syntax.proofs.parse.statements.item_at.Goals as goal

pub returns-in-Err : goal.returns-in-Err
unfolding item_at
returns-in-Err c = fails_first _ _ _ _ (sym c.is_word.ensures ∙ c.if-is_word.true) (fails_here _ _ _ c.in-Err.ensures)

pub returns-in-Ok : goal.returns-in-Ok
unfolding item_at
returns-in-Ok c = (
  first_way _ _ _ (sym c.is_word.ensures ∙ c.if-is_word.true) ∙ reads_on _ _ _ _ c.in-Ok.ensures.0 refl,
  c.in-Ok.ensures.1,
)

pub returns-in-Err-record_at : goal.returns-in-Err-record_at
unfolding item_at
returns-in-Err-record_at c = fails_other _ _ _ _ (sym c.is_word.ensures ∙ c.if-is_word.false) (fails_first _ _ _ _ (sym c.is_word-else-is_word.ensures ∙ c.if-is_word-2.true) (fails_here _ _ _ c.in-Err-record_at.ensures))

pub returns-in-Ok-record_at : goal.returns-in-Ok-record_at
unfolding item_at
returns-in-Ok-record_at c = (
  other_way _ _ _ (sym c.is_word.ensures ∙ c.if-is_word.false) ∙ first_way _ _ _ (sym c.is_word-else-is_word.ensures ∙ c.if-is_word-2.true) ∙ reads_on _ _ _ _ c.in-Ok-record_at.ensures.0 refl,
  c.in-Ok-record_at.ensures.1,
)

pub returns-then-is_word-3 : goal.returns-then-is_word-3
unfolding item_at
returns-then-is_word-3 c = gives_other _ _ _ _ _ _ (sym c.is_word.ensures ∙ c.if-is_word.false) (gives_other _ _ _ _ _ _ (sym c.is_word-else-is_word.ensures ∙ c.if-is_word-2.false) (gives_first _ _ _ _ _ _ (sym c.is_word-else-is_word-2.ensures ∙ c.if-is_word-3.true) c.enumeration_at.ensures))

pub returns-then-is_word-4 : goal.returns-then-is_word-4
unfolding item_at
returns-then-is_word-4 c = gives_other _ _ _ _ _ _ (sym c.is_word.ensures ∙ c.if-is_word.false) (gives_other _ _ _ _ _ _ (sym c.is_word-else-is_word.ensures ∙ c.if-is_word-2.false) (gives_other _ _ _ _ _ _ (sym c.is_word-else-is_word-2.ensures ∙ c.if-is_word-3.false) (gives_first _ _ _ _ _ _ (sym c.is_word-else-is_word-3.ensures ∙ c.if-is_word-4.true) c.union_at.ensures)))

pub returns-then-is_word-5 : goal.returns-then-is_word-5
unfolding item_at
returns-then-is_word-5 c = gives_other _ _ _ _ _ _ (sym c.is_word.ensures ∙ c.if-is_word.false) (gives_other _ _ _ _ _ _ (sym c.is_word-else-is_word.ensures ∙ c.if-is_word-2.false) (gives_other _ _ _ _ _ _ (sym c.is_word-else-is_word-2.ensures ∙ c.if-is_word-3.false) (gives_other _ _ _ _ _ _ (sym c.is_word-else-is_word-3.ensures ∙ c.if-is_word-4.false) (gives_first _ _ _ _ _ _ (sym c.is_word-else-is_word-4.ensures ∙ c.if-is_word-5.true) c.service_at.ensures))))

pub returns-else-is_word-5 : goal.returns-else-is_word-5
unfolding item_at
returns-else-is_word-5 c = gives_other _ _ _ _ _ _ (sym c.is_word.ensures ∙ c.if-is_word.false) (gives_other _ _ _ _ _ _ (sym c.is_word-else-is_word.ensures ∙ c.if-is_word-2.false) (gives_other _ _ _ _ _ _ (sym c.is_word-else-is_word-2.ensures ∙ c.if-is_word-3.false) (gives_other _ _ _ _ _ _ (sym c.is_word-else-is_word-3.ensures ∙ c.if-is_word-4.false) (gives_other _ _ _ _ _ _ (sym c.is_word-else-is_word-4.ensures ∙ c.if-is_word-5.false) (c.statement_at.ensures)))))
