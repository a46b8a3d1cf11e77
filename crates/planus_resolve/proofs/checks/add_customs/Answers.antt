use Rattle.std.proofs.Common.{refl, ◌≡◌, ◌∷◌, [], ℕ, ◌+◌, drop, ◌++◌, ap, sym, ◌∙◌, append_assoc}
use Rattle.std.proofs.lemmas.List.{append-nil, drop_all, map_push}
use Rattle.std.specs.Global.{Vec}
use Rattle.planus_syntax.specs.Values.{names_of}
use Rattle.planus_syntax.specs.declared.value.Item.{Item}
use Rattle.planus_syntax.specs.declared.value.Item.TheVariants as item
use Rattle.planus_syntax.specs.declared.value.Label.{Label}
use Rattle.planus_resolve.specs.WrongServices.{customs_at, customs_in}
use Rattle.planus_resolve.proofs.StructLemmas.{drop_next}
use Rattle.planus_resolve.proofs.checks.add_customs.Goals.{in-Attribute+in-Ok+in_ok-push, in_default}
use Rattle.planus_resolve.proofs.checks.add_customs.Goals as goal

no_custom : (i : Item) → ((l : Label) → i ≡ item.Attribute l → ⊥) → customs_at i ≡ []
no_custom (item.Include w) other = refl
no_custom (item.NativeInclude w) other = refl
no_custom (item.Namespace p) other = refl
no_custom (item.Attribute l) other = absurd (other l refl)
no_custom (item.Table r) other = refl
no_custom (item.Struct r) other = refl
no_custom (item.Enum e) other = refl
no_custom (item.Union u) other = refl
no_custom (item.Service s) other = refl
no_custom (item.RootType p) other = refl
no_custom (item.FileIdentifier w) other = refl
no_custom (item.FileExtension w) other = refl

pub declarations-preserved : goal.declarations-preserved
declarations-preserved c =
    let known = names_of c.declarations.known.items in
    let r = drop_next c.args.declarations.now c.declarations.declaration-index c.declaration-item.result c.declarations-test.true c.declaration-item.is in
    let d = c.declaration-item.result in
    let rest = customs_in (drop (c.declarations.declaration-index + 1) c.args.declarations.now) in
    let added : names_of c.match-declaration.known.items ≡ known ++ customs_at d.item =
    elim c.match-declaration.branch [
      | in-Attribute+in-Ok+in_ok-push w ↦
          ap (λ (v : Vec (Vec ℕ)). names_of v.items) w.known-is ∙ ap names_of w.in_ok-push.ensures.items
          ∙ map_push (λ (v : Vec ℕ). v.items) c.declarations.known.items w.in-Ok.value
          ∙ ap (λ n. known ++ n ∷ []) w.in-Ok.ensures ∙ ap (λ i. known ++ customs_at i) (sym w.in-Attribute.is)
      | in_default w ↦ ap (λ (v : Vec (Vec ℕ)). names_of v.items) w.known-is ∙ sym (append-nil known) ∙ ap (λ ns. known ++ ns) (sym (no_custom d.item w.in_default.not-Attribute))
    ] in
    ap (λ ns. ns ++ rest) added ∙ append_assoc known (customs_at d.item) rest ∙ ap (λ ds. known ++ customs_in ds) (sym r) ∙ c.declarations.invariant

pub returns : goal.returns
returns c =
    let d = drop_all c.declarations.declaration-index c.args.declarations.now c.declarations-test.false in
    sym (append-nil (names_of c.declarations.known.items)) ∙ rw d at c.declarations.invariant
