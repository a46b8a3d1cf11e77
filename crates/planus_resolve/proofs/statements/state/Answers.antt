use Rattle.std.proofs.Common.{◌≡◌, ℕ, List, refl, sym, ◌∙◌}
use Rattle.std.specs.Prelude.{None}
use Rattle.std.specs.Global.{Vec}
use Rattle.planus_syntax.specs.Values.{item_of}
use Rattle.planus_syntax.specs.declared.value.Path.{Path}
use Rattle.planus_syntax.specs.declared.value.Item.{Item}
use Rattle.planus_syntax.specs.declared.value.Item.TheVariants as item
use Rattle.planus_resolve.specs.Names.{HeadV, SpaceV}
use Rattle.planus_resolve.specs.inner.Scopes.{scope_heads, scope_space}
use Rattle.planus_resolve.specs.Schemas.{StatementsV, said_of, after}
use Rattle.planus_resolve.specs.Faults.{wrong_statement}
use Rattle.planus_resolve.proofs.FaultLemmas.{skip, stops_first, stops_next}
use Rattle.planus_resolve.proofs.statements.state.Goals as goal

nothing_said : (hs : List HeadV) (space : SpaceV) (x : StatementsV) (i : Item) → ((p : Path) → i ≡ item.RootType p → ⊥) → ((w : Vec ℕ) → i ≡ item.FileIdentifier w → ⊥) → ((w : Vec ℕ) → i ≡ item.FileExtension w → ⊥) → after hs space x (item_of i) ≡ x
nothing_said hs space x (item.Include w) a b c = refl
nothing_said hs space x (item.NativeInclude w) a b c = refl
nothing_said hs space x (item.Namespace p) a b c = refl
nothing_said hs space x (item.Attribute l) a b c = refl
nothing_said hs space x (item.Table r) a b c = refl
nothing_said hs space x (item.Struct r) a b c = refl
nothing_said hs space x (item.Enum e) a b c = refl
nothing_said hs space x (item.Union u) a b c = refl
nothing_said hs space x (item.Service s) a b c = refl
nothing_said hs space x (item.RootType p) a b c = absurd (a p refl)
nothing_said hs space x (item.FileIdentifier w) a b c = absurd (b w refl)
nothing_said hs space x (item.FileExtension w) a b c = absurd (c w refl)

nothing_wrong : (hs : List HeadV) (space : SpaceV) (x : ℕ) (i : Item) → ((p : Path) → i ≡ item.RootType p → ⊥) → ((w : Vec ℕ) → i ≡ item.FileIdentifier w → ⊥) → ((w : Vec ℕ) → i ≡ item.FileExtension w → ⊥) → wrong_statement hs space x i ≡ None
nothing_wrong hs space x (item.Include w) a b c = refl
nothing_wrong hs space x (item.NativeInclude w) a b c = refl
nothing_wrong hs space x (item.Namespace p) a b c = refl
nothing_wrong hs space x (item.Attribute l) a b c = refl
nothing_wrong hs space x (item.Table r) a b c = refl
nothing_wrong hs space x (item.Struct r) a b c = refl
nothing_wrong hs space x (item.Enum e) a b c = refl
nothing_wrong hs space x (item.Union u) a b c = refl
nothing_wrong hs space x (item.Service s) a b c = refl
nothing_wrong hs space x (item.RootType p) a b c = absurd (a p refl)
nothing_wrong hs space x (item.FileIdentifier w) a b c = absurd (b w refl)
nothing_wrong hs space x (item.FileExtension w) a b c = absurd (c w refl)

pub returns-in-Err-clause-wrong : goal.returns-in-Err-clause-wrong
returns-in-Err-clause-wrong c = stops_first _ _ c.in-Err.error c.in-Err.ensures

pub returns-in-Err-table_at-clause-wrong : goal.returns-in-Err-table_at-clause-wrong
returns-in-Err-table_at-clause-wrong c =
    stops_next _ _ c.in-Err-table_at.error c.in-Ok.ensures (rw c.in-RootType.is c.in-Err-table_at.ensures.wrong)

pub returns-in-Ok-table_at-clause-wrong : goal.returns-in-Ok-table_at-clause-wrong
returns-in-Ok-table_at-clause-wrong c = skip _ _ c.in-Ok.ensures ∙ (rw c.in-RootType.is c.in-Ok-table_at.ensures.wrong)

pub returns-in_default-clause-said : goal.returns-in_default-clause-said
returns-in_default-clause-said c = (
  sym (nothing_said (scope_heads c.args.scope.now) (scope_space c.args.scope.now) (said_of c.args.statements.now) c.args.declaration.now.item c.in_default.not-RootType c.in_default.not-FileIdentifier c.in_default.not-FileExtension),
  λ four. four,
)

pub returns-in_default-clause-wrong : goal.returns-in_default-clause-wrong
returns-in_default-clause-wrong c =
    skip _ _ c.in-Ok.ensures
    ∙ nothing_wrong (scope_heads c.args.scope.now) (scope_space c.args.scope.now) c.args.declaration.now.left c.args.declaration.now.item c.in_default.not-RootType c.in_default.not-FileIdentifier c.in_default.not-FileExtension
