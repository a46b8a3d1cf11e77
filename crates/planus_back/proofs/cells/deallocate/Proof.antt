-- `deallocate` frees the places with the deed.
use mathlib.Core.Path.{◌≡◌, refl, sym, subst, ap, ◌∙◌}
use Prim.Native.Nat.{ℕ, ◌*◌, ◌<◌, ◌^◌}
use native.Mathlib.Omega.{arith}
use mathlib.Core.List.{List, [], ◌∷◌, ◌++◌}
use lib.Dec.{T}
use lib.ListN.{length}
use seplogic.Ra.Ura.{Ura}
use mir.Syntax.{Fn, Ty, w64, ty_unit, ty_array}
use mir.MapTy.{inst_fn}
use mir.Val.{Val, WT, vunit, vint, vptr, has_ty}
use base.Logic.{SProp, ent, id⊢}
use base.Fml.{ftrue, froom, flft, Incl-trans}
use prog.Memory.{Memory, align, capped}
use prog.Capped.{capped_fits}
use prog.Routine.{Routine}
use prog.Wp.{Env, WpFn, Tables}
use types.Logic.{Logic}
use contract.BorrowLft.{◌⊑◌}
use contract.Monad.{Fun, fact}
use contract.Running.{tables, tables_of}
use sound.WpLaws.{fm_of, WpFn-mono}
use types.Kit.{‵, raw, ◌⊛◌, given, later, at_ret, ◌$◌, ◌∵◌, !, qed, move, keep, use1, use2, use3, split, split3, join, learn, rewrite, fsplit, fjoin, feq_i, feq_l, suffices, await, done}
use types.Part.{whole, sub}
use types.Run.{stop, fld, size_word, align_word, unit_lit, of_opd, bin, no_more, and_then, first, blocks, exec, returns, enter}
use types.ByLocal.{alloc_all, pass_all, free_all, look_at, get, get_in, is, sets, lands_as, lands_last, env}
use denote.Exit.{yes, no}
use denote.RattleType.{owns}
use denote.Builtin.{RefOf}
use denote.RawPtr.{Ptr, block_ptr}
use denote.Signature.{plain, types_at}
use denote.Steps.{heard, nothing}
use denote.Triple.Call.{calls_at, calls_at_last}
use denote.Triple.Clauses.{Clauses, Ended, closing}
use denote.Triple.Spec.{Meets, triple_of}
use denote.Triple.Statement.{Triple}
use denote.Triple.Table.{entered}
use denote.Triple.Walked.{Stays, stay_dropped, walk_of, ends_at, Goes-dropped, walk_Meets}
use Rattle.core.specs.Mem.Slots.{slots_items, slots_filled, slots_ptr, slots_len, slots_counts}
use Rattle.core.proofs.alloc.Calls.{token, gives_key, Gives, at_gives, Gives-goes, Gives-Gives}
use Rattle.core.proofs.slots.Opens.{row_val, row_had, row_made}
use Rattle.core.proofs.slots.Places.{to_room}
use Rattle.core.proofs.slots.Leases.{uncapped, block_ty, block_size, block_align}
use Rattle.core.proofs.slots.Slots.into_raw_parts.Met as callee
use Rattle.std_alloc.proofs.VecSteps.El.{El, args, P, Hd, elτ, sz}
use Rattle.std_alloc.proofs.VecSteps.Shapes.{after}
use Rattle.std_alloc.proofs.vec.Blocks.{el, all}
use Rattle.std_alloc.proofs.vec.Spares.{Row, into_key, Into, at_into, Into-goes, Into-gives}
use Rattle.planus_back.proofs.Deeds.{Dd, deed_val, deed_had}
use Rattle.planus_back.specs.contracts.cells.deallocate as F
use Rattle.planus_back.specs.contracts.cells.deallocate.Key.{name as #self}
use Rattle.planus_back.proofs.cells.deallocate.Statement as stated
use Rattle.planus_back.proofs.cells.deallocate.Code as code

module _ (E : El) where
  abbrev here : Fn
  here = inst_fn (args E) code.function

  abbrev ended : Ended
  ended = F.ended E.row E.al.row E.al.g E.al.d E.al.drops

  abbrev stayed : Stays ended.signature.params ended.kept
  stayed = (stay_dropped (RefOf (0 ∷ []) tt (plain (λ _. P E)) (λ _. tt)) yes, (stay_dropped (plain (λ _. Row E)) no, (stay_dropped (plain (λ _. Dd E)) no, tt)))

  module _ {M : Type 1} {𝓤 : Ura M} (𝓛 : Logic 𝓤) (at_mem : Memory → SProp 𝓤) (returning : Routine → Fun 𝓤) (𝓣 : Tables 𝓤 𝓛.H)
      (parts : Triple 𝓤 (𝓣.C (into_key E)) (Into E 𝓛 at_mem returning)) (gives : Triple 𝓤 (𝓣.C (gives_key E.al)) (Gives E.al 𝓛 at_mem returning)) where
    open 𝓛 use {H}

    abbrev held : Clauses 𝓤 ended
    held = F.clauses E.row E.al.row E.al.g E.al.d E.al.drops 𝓛 at_mem returning

    abbrev Bound : Type 0
    Bound = (walk_of 𝓛 ended stayed held).Ghost

    abbrev Goes : Bound → Type 1
    Goes y = ent 𝓤 ((walk_of 𝓛 ended stayed held).pre y) (WpFn 𝓤 H 𝓣.C 𝓣.Λ here ((walk_of 𝓛 ended stayed held).args y) ((walk_of 𝓛 ended stayed held).post y))

    walk : (z : Bound) → Goes z
    walk z =
        let κ = z.0.0.0 in let κ₁ = z.0.0.1.0 in let κ₂ = z.0.0.1.1.0 in let q = z.0.1.0 in let q₁ = z.0.1.1.0 in let q₂ = z.0.1.1.1.0 in
        let hp : ℕ × ℕ = z.0.3.0.ref_ptr in let a : Hd E = z.0.3.0.now in let r : (Row E).Denot = z.0.3.1.0 in let d : (Dd E).Denot = z.0.3.1.1.0 in let vss = z.0.4 in
        let Post : Val → SProp 𝓤 = (walk_of 𝓛 ended stayed held).post z in
        let Run : List Val → SProp 𝓤 = λ ws. WpFn 𝓤 H 𝓣.C 𝓣.Λ here ws Post in
        let Ok : Type 0 = (d.at ≡ slots_ptr r) × (d.len ≡ slots_len r) × (d.alloc ≡ a) in
        let n : ℕ = slots_len r in let s : ℕ = sz E in let al : ℕ = capped (align (elτ E)) in let τ : Ty = block_ty (el E) n in
        qed 𝓛 (((‵ (flft κ q) ⊛ ‵ (flft κ₁ q₁) ⊛ ‵ (flft κ₂ q₂) ⊛ ‵ ftrue) ⊛ ‵ (owns (types_at ended.signature.params z.0.0) z.0.3 vss))
        ∷ (raw (fact 𝓤 (κ₁ ⊑ E.row.lives)) ⊛ raw (fact 𝓤 (κ₂ ⊑ E.al.row.lives)) ⊛ raw (fact 𝓤 Ok)) ∷ []) ∵
        move ! (1 ∷ []) $ split3 ! $ heard ! (κ₁ ⊑ E.row.lives) (λ inE. heard ! (κ₂ ⊑ E.al.row.lives) (λ inZ. heard ! Ok (λ ok.
        split ! $ split3 ! $ move ! (3 ∷ []) $ fsplit ! $ fsplit ! $ feq_l ! (λ e₀. move ! (1 ∷ []) $ fsplit ! $ row_had (el E) ! r vss.1.0 (λ b o at e₁ fn fit. row_made (el E) ! r b o at fn fit $
        move ! (1 ∷ []) $ fsplit ! $ deed_had E ! d vss.1.1.0 (λ e₂.
        rewrite ! 0 (λ (p : Ptr). ‵ (token E.al d.alloc (block_ty (el E) d.len) p)) (ok.0 ∙ at) refl $
        rewrite ! 0 (λ (k : ℕ). ‵ (token E.al d.alloc (block_ty (el E) k) (block_ptr b o))) ok.1 refl $
        rewrite ! 0 (λ (h : Hd E). ‵ (token E.al h τ (block_ptr b o))) ok.2 refl $
        keep ! (2 ∷ 0 ∷ 3 ∷ 4 ∷ 5 ∷ 6 ∷ []) $
        -- [the places; the right to give them back; the allocator; its token; the items' token; the other token]
        let us : List Val = vptr hp.0 hp.1 ∷ row_val b o n ∷ deed_val ∷ [] in
        let words : WT (row_val b o n) = (tt, (record { fits = fn }, tt)) in
        let lx : n ≡ length (slots_items r) = (slots_counts r).0 in let lf : n ≡ length (slots_filled r) = (slots_counts r).1 in
        suffices ! (Run us) (subst (λ (ws : List Val). ent 𝓤 (Run us) (Run ws)) (sym (λ k. e₀ k ++ (e₁ k ++ (e₂ k ++ [])))) (id⊢ 𝓤 (Run us))) $
        enter ! 𝓣.C 𝓣.Λ here us Post $ alloc_all ! (λ l. pass_all ! refl ((tt, tt), ((tt, words), ((tt, (tt, tt)), tt))) $
        let En : Env 𝓤 H = env here.locals l in
        let y₁ : (Into E 𝓛 at_mem returning).Ghost = at_into E 𝓛 at_mem returning κ₁ q₁ r b o in
        let y₂ : (Gives E.al 𝓛 at_mem returning).Ghost = at_gives E.al 𝓛 at_mem returning κ q hp a b o (n * s) al τ in
        first ! $ blocks ! $ sets ! (of_opd ! (get ! refl)) refl (tt, words) $
        move ! (0 ∷ 4 ∷ []) $ use2 𝓛 (raw ((Into E 𝓛 at_mem returning).pre y₁)) (Into-goes E 𝓛 at_mem returning κ₁ q₁ r b o inE) $
        calls_at ! (fm_of 𝓤 H 𝓛.laws 𝓣) (Into E 𝓛 at_mem returning) parts y₁ (and_then ! (get ! refl) (no_more !)) (λ v.
        use1 𝓛 (later (given (v ≡ row_val b o n) (‵ (all E b o (slots_items r) (slots_filled r)) ⊛ ‵ (flft κ₁ q₁)))) (Into-gives E 𝓛 at_mem returning κ₁ q₁ r b o v at) $ await ! tt $ learn ! (λ e. split ! $
        lands_as ! e refl (tt, words) $
        sets ! (of_opd ! (get_in ! (fld ! refl (stop !)) (sub ! 0 refl (whole !)))) refl (tt, tt) $ sets ! (of_opd ! (get_in ! (fld ! refl (stop !)) (sub ! 1 refl (whole !)))) refl (tt, record { fits = fn }) $
        let small : n * s < 2 ^ 63 = fit in let fm : n * s < 2 ^ 64 = omega arith in
        sets ! (of_opd ! (get ! refl)) refl (tt, tt) $
        sets ! (is ! (bin ! (get ! refl) (size_word !) (record { fits = subst (λ (k : ℕ). k < 2 ^ 64) (sym (uncapped n s fm)) fm })) (ap (vint w64) (uncapped n s fm))) refl (tt, record { fits = fm }) $
        use1 𝓛 (‵ (froom (ty_array (elτ E) (length (slots_items r))) b o)) (to_room (el E) 𝓛 b (slots_items r) (slots_filled r) o (sym lf ∙ lx)) $
        rewrite ! 0 (λ (k : ℕ). ‵ (froom (ty_array (elτ E) k) b o)) (sym lx) refl $ use1 𝓛 (‵ (froom τ b o)) (𝓛.laws.room-raw (ty_array (elτ E) n) b o) $
        -- [the room; the items' token; the right to give it back; the allocator; its token; the other token]
        move ! (3 ∷ 4 ∷ []) $ join ! $ move ! (1 ∷ 3 ∷ 0 ∷ []) $ use3 𝓛 (raw ((Gives E.al 𝓛 at_mem returning).pre y₂))
        (Gives-goes E.al 𝓛 at_mem returning κ q hp a (Incl-trans z.0.2.0 inZ) b o (n * s) al τ (block_size (el E) n fm) (block_align (el E) n) fm (capped_fits (align (elτ E)))) $
        calls_at_last ! (fm_of 𝓤 H 𝓛.laws 𝓣) (Gives E.al 𝓛 at_mem returning) gives y₂ (and_then ! (get ! refl) (and_then ! (get ! refl) (and_then ! (get ! refl) (and_then ! (align_word !) (no_more !))))) (λ w.
        use1 𝓛 (later (given (w ≡ vunit) (‵ (flft κ q)))) (Gives-Gives E.al 𝓛 at_mem returning κ q hp a b o (n * s) al τ w) $ await ! tt $ learn ! (λ e₃.
        lands_last ! refl (subst (λ (u : Val). T (has_ty ty_unit u) × WT u) (sym e₃) (tt, tt)) $ exec ! 𝓣.C 𝓣.Λ En (after 1 here.body) (at_ret En Post) $
        sets ! (of_opd ! (unit_lit !)) refl (tt, tt) $ returns ! (look_at ! 0 refl) $ free_all ! refl $
        suffices ! _ (ends_at 𝓛 ended stayed held z vunit tt (tt, (tt, (tt, tt))) (tt, (tt, (tt, tt)))) $
        move ! (1 ∷ 2 ∷ []) $ join ! $ move ! (1 ∷ 0 ∷ []) $ join ! $ feq_i ! (List Val) (vunit ∷ []) (vunit ∷ []) refl $
        nothing ! $ nothing ! $ fjoin ! $ nothing ! $ fjoin ! $ nothing ! $ fjoin ! $ join ! $ move ! (1 ∷ 0 ∷ []) $ join ! $ nothing ! $ keep ! (1 ∷ 0 ∷ []) $ done !)))))))))))

    meets : Meets 𝓛 ended.signature (WpFn 𝓤 H 𝓣.C 𝓣.Λ here) (closing 𝓛 ended held)
    meets =
        walk_Meets 𝓛 ended stayed (
          Goes-dropped 𝓛 3 (RefOf (0 ∷ []) tt (plain (λ _. P E)) (λ _. tt)) yes (λ κs x f. refl),
          (Goes-dropped 𝓛 3 (plain (λ _. Row E)) no (λ κs x f. refl), (Goes-dropped 𝓛 3 (plain (λ _. Dd E)) no (λ κs x f. refl), tt)),
        ) held
        (WpFn 𝓤 H 𝓣.C 𝓣.Λ here) (WpFn-mono 𝓤 H 𝓛.laws 𝓣 here) walk

pub deallocate_spec : {M : Type 1} → stated.statement M
unfolding tables_of
deallocate_spec 𝓤 𝓛 𝓜 𝓡 wired X Z L LZ g d dd met md =
    let E : El = record { row = X; laws = L; al = record { row = Z; laws = LZ; g = g; d = d; drops = dd } } in
    let 𝓣 : Tables 𝓤 𝓛.H = tables_of 𝓤 𝓛.H 𝓜 (tables 𝓤 𝓛.H 𝓜 𝓡 𝓡.env) in
    entered 𝓤 𝓛.H (triple_of 𝓛 (ended E).signature (F.spec X Z g d dd 𝓛 𝓜.mem 𝓡.returns)) 𝓣.C 𝓣.Λ (#self (args E)) (here E) (code.unfolded 𝓤 𝓛.H 𝓜 𝓡 wired (X, (Z, tt)) d dd)
    (meets E 𝓛 𝓜.mem 𝓡.returns 𝓣 (callee.met 𝓤 𝓛 𝓜 𝓡 (code.calls-core::slots::Slots::into_raw_parts 𝓡.env wired) X L) (met.deallocate dd))
