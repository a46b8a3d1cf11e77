use Rattle.std.proofs.Common.{refl, sym, ◌∙◌}
use Rattle.planus_syntax.specs.Reading.{statement_at}
use Rattle.planus_syntax.proofs.Steps.{fails_here, reads_on, first_way, other_way, fails_first, fails_other, gives_first, gives_other}
use Rattle.planus_syntax.proofs.parse.statements.statement_at.Goals as goal

pub returns-in-Err : goal.returns-in-Err
unfolding statement_at
returns-in-Err c = fails_first _ _ _ _ (sym c.is_word.ensures ∙ c.if-is_word.true) (fails_here _ _ _ c.in-Err.ensures)

pub returns-in-Ok : goal.returns-in-Ok
unfolding statement_at
returns-in-Ok c = (
  first_way _ _ _ (sym c.is_word.ensures ∙ c.if-is_word.true) ∙ reads_on _ _ _ _ c.in-Ok.ensures refl,
  tt,
)

pub returns-then-is_word-2 : goal.returns-then-is_word-2
unfolding statement_at
returns-then-is_word-2 c = gives_other _ _ _ _ _ _ (sym c.is_word.ensures ∙ c.if-is_word.false) (gives_first _ _ _ _ _ _ (sym c.is_word-else-is_word.ensures ∙ c.if-is_word-2.true) c.namespace_at.ensures)

pub returns-then-is_word-3 : goal.returns-then-is_word-3
unfolding statement_at
returns-then-is_word-3 c = gives_other _ _ _ _ _ _ (sym c.is_word.ensures ∙ c.if-is_word.false) (gives_other _ _ _ _ _ _ (sym c.is_word-else-is_word.ensures ∙ c.if-is_word-2.false) (gives_first _ _ _ _ _ _ (sym c.is_word-else-is_word-2.ensures ∙ c.if-is_word-3.true) c.declared_at.ensures))

pub returns-in-Err-rooted_at : goal.returns-in-Err-rooted_at
unfolding statement_at
returns-in-Err-rooted_at c = fails_other _ _ _ _ (sym c.is_word.ensures ∙ c.if-is_word.false) (fails_other _ _ _ _ (sym c.is_word-else-is_word.ensures ∙ c.if-is_word-2.false) (fails_other _ _ _ _ (sym c.is_word-else-is_word-2.ensures ∙ c.if-is_word-3.false) (fails_first _ _ _ _ (sym c.is_word-else-is_word-3.ensures ∙ c.if-is_word-4.true) (fails_here _ _ _ c.in-Err-rooted_at.ensures))))

pub returns-in-Ok-rooted_at : goal.returns-in-Ok-rooted_at
unfolding statement_at
returns-in-Ok-rooted_at c = (
  other_way _ _ _ (sym c.is_word.ensures ∙ c.if-is_word.false) ∙ other_way _ _ _ (sym c.is_word-else-is_word.ensures ∙ c.if-is_word-2.false) ∙ other_way _ _ _ (sym c.is_word-else-is_word-2.ensures ∙ c.if-is_word-3.false) ∙ first_way _ _ _ (sym c.is_word-else-is_word-3.ensures ∙ c.if-is_word-4.true) ∙ reads_on _ _ _ _ c.in-Ok-rooted_at.ensures.0 refl,
  c.in-Ok-rooted_at.ensures.1,
)

pub returns-in-Err-quoted_at : goal.returns-in-Err-quoted_at
unfolding statement_at
returns-in-Err-quoted_at c = fails_other _ _ _ _ (sym c.is_word.ensures ∙ c.if-is_word.false) (fails_other _ _ _ _ (sym c.is_word-else-is_word.ensures ∙ c.if-is_word-2.false) (fails_other _ _ _ _ (sym c.is_word-else-is_word-2.ensures ∙ c.if-is_word-3.false) (fails_other _ _ _ _ (sym c.is_word-else-is_word-3.ensures ∙ c.if-is_word-4.false) (fails_first _ _ _ _ (sym c.is_word-else-is_word-4.ensures ∙ c.if-is_word-5.true) (fails_here _ _ _ c.in-Err-quoted_at.ensures)))))

pub returns-in-Ok-quoted_at : goal.returns-in-Ok-quoted_at
unfolding statement_at
returns-in-Ok-quoted_at c = (
  other_way _ _ _ (sym c.is_word.ensures ∙ c.if-is_word.false) ∙ other_way _ _ _ (sym c.is_word-else-is_word.ensures ∙ c.if-is_word-2.false) ∙ other_way _ _ _ (sym c.is_word-else-is_word-2.ensures ∙ c.if-is_word-3.false) ∙ other_way _ _ _ (sym c.is_word-else-is_word-3.ensures ∙ c.if-is_word-4.false) ∙ first_way _ _ _ (sym c.is_word-else-is_word-4.ensures ∙ c.if-is_word-5.true) ∙ reads_on _ _ _ _ c.in-Ok-quoted_at.ensures refl,
  tt,
)

pub returns-in-Err-quoted_at-2 : goal.returns-in-Err-quoted_at-2
unfolding statement_at
returns-in-Err-quoted_at-2 c = fails_other _ _ _ _ (sym c.is_word.ensures ∙ c.if-is_word.false) (fails_other _ _ _ _ (sym c.is_word-else-is_word.ensures ∙ c.if-is_word-2.false) (fails_other _ _ _ _ (sym c.is_word-else-is_word-2.ensures ∙ c.if-is_word-3.false) (fails_other _ _ _ _ (sym c.is_word-else-is_word-3.ensures ∙ c.if-is_word-4.false) (fails_other _ _ _ _ (sym c.is_word-else-is_word-4.ensures ∙ c.if-is_word-5.false) (fails_first _ _ _ _ (sym c.is_word-else-is_word-5.ensures ∙ c.if-is_word-6.true) (fails_here _ _ _ c.in-Err-quoted_at-2.ensures))))))

pub returns-in-Ok-quoted_at-2 : goal.returns-in-Ok-quoted_at-2
unfolding statement_at
returns-in-Ok-quoted_at-2 c = (
  other_way _ _ _ (sym c.is_word.ensures ∙ c.if-is_word.false) ∙ other_way _ _ _ (sym c.is_word-else-is_word.ensures ∙ c.if-is_word-2.false) ∙ other_way _ _ _ (sym c.is_word-else-is_word-2.ensures ∙ c.if-is_word-3.false) ∙ other_way _ _ _ (sym c.is_word-else-is_word-3.ensures ∙ c.if-is_word-4.false) ∙ other_way _ _ _ (sym c.is_word-else-is_word-4.ensures ∙ c.if-is_word-5.false) ∙ first_way _ _ _ (sym c.is_word-else-is_word-5.ensures ∙ c.if-is_word-6.true) ∙ reads_on _ _ _ _ c.in-Ok-quoted_at-2.ensures refl,
  tt,
)

pub returns-in-Err-quoted_at-3 : goal.returns-in-Err-quoted_at-3
unfolding statement_at
returns-in-Err-quoted_at-3 c = fails_other _ _ _ _ (sym c.is_word.ensures ∙ c.if-is_word.false) (fails_other _ _ _ _ (sym c.is_word-else-is_word.ensures ∙ c.if-is_word-2.false) (fails_other _ _ _ _ (sym c.is_word-else-is_word-2.ensures ∙ c.if-is_word-3.false) (fails_other _ _ _ _ (sym c.is_word-else-is_word-3.ensures ∙ c.if-is_word-4.false) (fails_other _ _ _ _ (sym c.is_word-else-is_word-4.ensures ∙ c.if-is_word-5.false) (fails_other _ _ _ _ (sym c.is_word-else-is_word-5.ensures ∙ c.if-is_word-6.false) (fails_first _ _ _ _ (sym c.is_word-else-is_word-6.ensures ∙ c.if-is_word-7.true) (fails_here _ _ _ c.in-Err-quoted_at-3.ensures)))))))

pub returns-in-Ok-quoted_at-3 : goal.returns-in-Ok-quoted_at-3
unfolding statement_at
returns-in-Ok-quoted_at-3 c = (
  other_way _ _ _ (sym c.is_word.ensures ∙ c.if-is_word.false) ∙ other_way _ _ _ (sym c.is_word-else-is_word.ensures ∙ c.if-is_word-2.false) ∙ other_way _ _ _ (sym c.is_word-else-is_word-2.ensures ∙ c.if-is_word-3.false) ∙ other_way _ _ _ (sym c.is_word-else-is_word-3.ensures ∙ c.if-is_word-4.false) ∙ other_way _ _ _ (sym c.is_word-else-is_word-4.ensures ∙ c.if-is_word-5.false) ∙ other_way _ _ _ (sym c.is_word-else-is_word-5.ensures ∙ c.if-is_word-6.false) ∙ first_way _ _ _ (sym c.is_word-else-is_word-6.ensures ∙ c.if-is_word-7.true) ∙ reads_on _ _ _ _ c.in-Ok-quoted_at-3.ensures refl,
  tt,
)

pub returns-else-is_word-7 : goal.returns-else-is_word-7
unfolding statement_at
returns-else-is_word-7 c = other_way _ _ _ (sym c.is_word.ensures ∙ c.if-is_word.false) ∙ other_way _ _ _ (sym c.is_word-else-is_word.ensures ∙ c.if-is_word-2.false) ∙ other_way _ _ _ (sym c.is_word-else-is_word-2.ensures ∙ c.if-is_word-3.false) ∙ other_way _ _ _ (sym c.is_word-else-is_word-3.ensures ∙ c.if-is_word-4.false) ∙ other_way _ _ _ (sym c.is_word-else-is_word-4.ensures ∙ c.if-is_word-5.false) ∙ other_way _ _ _ (sym c.is_word-else-is_word-5.ensures ∙ c.if-is_word-6.false) ∙ other_way _ _ _ (sym c.is_word-else-is_word-6.ensures ∙ c.if-is_word-7.false)
