-- Texts that pass their tests.
use Rattle.std.proofs.Common.{◌≡◌, ℕ, Bool, IsTrue, List, sym, ap, subst, ◌∙◌}
use Rattle.std.specs.Prelude.{Result, Ok, Err, IfOk, true, false, ◌&&◌, ⊤}
use Rattle.std.specs.Bool.{MatchBool}
use Rattle.std.specs.Prelude.{Option}
use Rattle.planus_schema.specs.declared.schema.Body.{Body}
use Rattle.planus_schema.specs.declared.schema.Body.TheVariants as body
use Rattle.planus_schema.specs.declared.schema.Declared.{Declared}
use Rattle.planus_schema.specs.declared.schema.Table.{Table}
use Rattle.planus_schema.specs.Plans.{IsPlan}
use Rattle.planus_schema.specs.declared.plan.Plan.{Plan}
use Rattle.planus_tie.specs.Bare.{bare}
use Rattle.planus_schema.specs.declared.plan.Line.{Line}
use Rattle.planus_tie.specs.Files.{text_at, view_path_of, has_view, IsViewTextTied, IsBodyViewTied}
use Rattle.planus_tie.specs.declared.files.PrintedFile.{PrintedFile}
use Rattle.planus_tie.specs.SchemaTies.{IsSchemaTied, is_schema_text}
use Rattle.planus_tie.specs.Shapes.{AreLines}
use Rattle.planus_tie.specs.Ties.{IsTableTied, is_plan_tied}
use Rattle.planus_tie.specs.Views.{IsViewTied, is_view_tied}
use Rattle.planus_tie.specs.declared.groups.Entry.{Entry}
use Rattle.planus_tie.specs.declared.naming.Naming.{Naming}

pub tied_by : {E : Type 0} (n : Naming) (i : ℕ) (one : Table) (text without : List ℕ) (es : List Entry) (plan : Plan) (r : Result Bool E) → IsPlan n.declared.now i one.fields.items plan → without ≡ bare text → IfOk r (λ b. b ≡ is_plan_tied n es plan without) → IfOk r (λ b. IsTrue b → IsTableTied n i one text)
tied_by n i one text without es plan (Err e) p w h = tt
tied_by n i one text without es plan (Ok b) p w h = λ t. record {
  plan = plan;
  entries = es;
  planned = p;
  tied = ap (is_plan_tied n es plan) (sym w) ∙ sym h ∙ t;
}

pub viewed_by : {E : Type 0} (n : Naming) (ranks : List ℕ) (totals : List Bool) (i : ℕ) (one : Table) (text without : List ℕ) (plan : Plan) (r : Result Bool E) → IsPlan n.declared.now i one.fields.items plan → without ≡ bare text → IfOk r (λ b. b ≡ is_view_tied n ranks totals plan without) → IfOk r (λ b. IsTrue b → IsViewTied n ranks totals i one text)
viewed_by n ranks totals i one text without plan (Err e) p w h = tt
viewed_by n ranks totals i one text without plan (Ok b) p w h = λ t. record {
  plan = plan;
  planned = p;
  tied = ap (is_view_tied n ranks totals plan) (sym w) ∙ sym h ∙ t;
}

pub schema_by : {E : Type 0} (n : Naming) (ranks text without : List ℕ) (given lines : List Line) (r : Result Bool E) → given ≡ lines → AreLines n.declared.now 0 n.declared.now lines → without ≡ bare text → IfOk r (λ b. b ≡ is_schema_text n ranks given without) → IfOk r (λ b. IsTrue b → IsSchemaTied n ranks text)
schema_by n ranks text without given lines (Err e) g a w h = tt
schema_by n ranks text without given lines (Ok b) g a w h = λ t. record {
  lines = lines;
  are = a;
  tied = ap (λ ls. is_schema_text n ranks ls (bare text)) (sym g)
      ∙ ap (is_schema_text n ranks given) (sym w) ∙ sym h ∙ t;
}

chosen : (b : Bool) {P : Type 0} → P → MatchBool b P ⊤
chosen true p = p
chosen false p = tt

weakened : {A E : Type 0} (r : Result A E) {P Q : A → Type 0} → ((v : A) → P v → Q v) → IfOk r P → IfOk r Q
weakened (Ok v) f h = f v h
weakened (Err e) f h = tt

pub body_viewed : {E : Type 0} (n : Naming) (ranks : List ℕ) (totals : List Bool) (files : List PrintedFile) (i : ℕ) (b : Body) (path : List ℕ) (found : Option (List ℕ)) (r : Result Bool E) → path ≡ view_path_of n i → found ≡ text_at path files → IfOk r (λ v. IsTrue v → IsViewTextTied n ranks totals i b found) → IfOk r (λ v. IsTrue v → IsBodyViewTied n ranks totals files i b)
unfolding IsBodyViewTied
body_viewed n ranks totals files i b path found r p f h =
    let whole : found ≡ text_at (view_path_of n i) files = f ∙ ap (λ q. text_at q files) p in
    weakened r (λ v tied is. chosen (has_view b) (subst (λ o. IsViewTextTied n ranks totals i b o) whole (tied is))) h

-- after a test that is met comes another one
pub then_tested : {E : Type 0} (r : Result Bool E) (first one other : Bool) → first ≡ one → IsTrue first → IfOk r (λ b. b ≡ other) → IfOk r (λ b. b ≡ (one && other))
then_tested (Err e) first one other h t w = tt
then_tested (Ok b) first one other h t w = w ∙ ap (λ a. a && other) (sym t ∙ h)
