-- What a `Deed` owns.
use mathlib.Core.Path.{◌≡◌, refl, subst}
use Prim.Native.Nat.{ℕ}
use mathlib.Core.List.{List, [], ◌∷◌, ◌++◌}
use seplogic.Ra.Ura.{Ura}
use mir.Val.{Val, vstruct, vcons, vnil, of_list}
use types.Logic.{Logic}
use types.Kit.{Goal, Step, step, Seq, Item, ‵, ◌$◌, drop, fsplit, fjoin, fpick, feq_l}
use denote.RattleType.{RattleType}
use denote.RawPtr.{Ptr}
use denote.Shadow.{pure_i}
use denote.Struct.Struct.{Struct}
use denote.Struct.Owning.{shape}
use Rattle.core.proofs.alloc.Calls.{token}
use Rattle.core.proofs.slots.Leases.{block_ty}
use Rattle.std_alloc.proofs.VecSteps.El.{El, R, P, Hd}
use Rattle.std_alloc.proofs.vec.Blocks.{el}
use Rattle.planus_back.specs.contracts.cells.Deed as deed

abbrev pub deed_val : Val
deed_val = vstruct (vcons (vstruct vnil) vnil)

module _ (E : El) where
  abbrev pub Dd : RattleType
  Dd = deed.the_row (R E) (P E) E.al.g

  abbrev pub right : Hd E → Ptr → ℕ → Dd.Denot
  right a p n = record { mark = record {}; at = p; len = n; alloc = a }

module _ (E : El) {M : Type 1} {𝓤 : Ura M} {𝓛 : Logic 𝓤} {K : Type 0} {Γ : List (Item 𝓤)} {G : Goal 𝓤 𝓛.H} where
  pub deed_had : K → (d : (Dd E).Denot) (vs : List Val) → (vs ≡ deed_val ∷ [] → Seq K 𝓛 (‵ (token E.al d.alloc (block_ty (el E) d.len) d.at) ∷ Γ) G) → Seq K 𝓛 (‵ ((Dd E).own_val d vs) ∷ Γ) G
  deed_had t d vs k =
      fsplit t $ fpick t (λ vss. fsplit t $ feq_l t (λ whole. fsplit t $ fpick t (λ uss. fsplit t $ feq_l t (λ e. drop t $ drop t $
      k (subst (λ (ws : List Val). vs ≡ vstruct (of_list (ws ++ [])) ∷ []) e whole)))))

  pub deed_made : K → (a : Hd E) (p : Ptr) (n : ℕ) → Step K 𝓛 (‵ ((Dd E).own_val (right E a p n) (deed_val ∷ [])) ∷ Γ) G (‵ (token E.al a (block_ty (el E) n) p) ∷ Γ) G
  deed_made t a p n = step (λ s.
      pure_i t ((Struct (shape (deed.the_type (R E) (P E) E.al.g))).own_val (tt, tt) (deed_val ∷ [])) (λ vss. (tt, ((λ uss. (tt, tt)), tt)))
      ((vstruct vnil ∷ [], tt), (refl, ((tt, (refl, tt)), tt))) $ fjoin t $ s)
