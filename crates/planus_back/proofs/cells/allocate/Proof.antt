-- `allocate` makes empty places, and the right to free them.
use mathlib.Core.Path.{◌≡◌, refl, sym, subst, ap, ◌∙◌}
use mathlib.Core.Bool.{Bool, true, false}
use Prim.Native.Nat.{ℕ, ◌*◌, ◌<◌, ◌^◌}
use native.Mathlib.Omega.{arith}
use mathlib.Core.List.{List, [], ◌∷◌}
use lib.Dec.{lit<}
use lib.ListN.{length, replicate, length-replicate}
use seplogic.Ra.Ura.{Ura}
use mir.Syntax.{Fn, Body, Ty, w64, named, ty_array}
use mir.MapTy.{inst_fn}
use mir.Val.{Val, WT, vint, vptr, vstruct, vcons, vnil}
use base.Logic.{SProp, ent, sep}
use base.Fml.{ftrue, froom, flft, Incl-trans}
use prog.Memory.{Memory, align, capped}
use prog.Capped.{capped_fits}
use prog.Routine.{Routine}
use prog.Wp.{Wp, after_seq, at_return, Env, WpFn, Tables}
use types.Logic.{Logic, sem}
use contract.BorrowLft.{◌⊑◌}
use contract.Monad.{Fun, fact}
use contract.Running.{tables, tables_of}
use sound.WpLaws.{fm_of, WpFn-mono}
use types.Kit.{Post as After, any_q, ‵, raw, ◌⊛◌, some, given, later, at_ret, ◌$◌, ◌∵◌, !, qed, by, move, keep, use1, use2, split, split3, join, pick, learn, rewrite, fsplit, fjoin, fjoin3, fpack, feq_i, suffices, await, done}
use types.Match.{live, vrt, in_variant}
use types.Part.{whole, agg}
use types.Run.{stop, fld, lit, size_word, align_word, of_opd, bin, no_more, and_then, first, blocks, switches_on, exec, returns, enter}
use types.ByLocal.{alloc_all, pass_all, free_all, look_at, get, get_in, get_tag, is, sets, sets_last, lands_as, lands_last, env}
use denote.Exit.{yes}
use denote.Laws.{Is}
use denote.RattleType.{RattleType, Valss, owns}
use denote.Builtin.{usize, RefOf}
use denote.Plain.{uint_vals, uint_Tells}
use denote.RawPtr.{RawPtr, InBlock, block_ptr}
use denote.Ref.{shr_vals, shr_Tells}
use denote.Signature.{plain, types_at}
use denote.Steps.{heard, nothing, owned}
use denote.Struct.Struct.{Struct, Struct-Makes, within}
use denote.Struct.Declared as Declared
use denote.Struct.Tuple.{Tuple, tuple_type}
use denote.Triple.Call.{calls_at, calls_at_last}
use denote.Triple.Clauses.{Clauses, Ended, closing}
use denote.Triple.Entry.{alive}
use denote.Triple.Spec.{Meets, triple_of}
use denote.Triple.Statement.{Triple}
use denote.Triple.Table.{entered}
use denote.Triple.Walked.{says, Stays, stay_dropped, walk_of, ends_at, walked, Goes-dropped, walk_Meets}
use Rattle.core.specs.Result.{IfOk}
use Rattle.core.specs.declared.result.Result.TheVariants.{Ok, Err}
use Rattle.core.specs.contracts.result.Result as result
use Rattle.core.specs.contracts.alloc.AllocError as refusal
use Rattle.core.specs.Mem.Slots.{slots_ptr, slots_len}
use Rattle.core.proofs.alloc.Calls.{Answer-typed, takes_key, Takes, at_takes, Answered, Takes-goes, Takes-gives, answers}
use Rattle.core.proofs.slots.Opens.{row_val}
use Rattle.core.proofs.slots.Places.{of_room}
use Rattle.core.proofs.slots.Leases.{uncapped, block_ty, block_size, block_align}
use Rattle.core.proofs.slots.Slots.from_raw_parts.Met as callee
use Rattle.std_alloc.specs.Vec.Ownership.{FitsInBlock}
use Rattle.std_alloc.proofs.ResultValues.{ok_of, err_of}
use Rattle.std_alloc.proofs.VecSteps.El.{El, args, R, P, Hd, el_x, elτ, sz}
use Rattle.std_alloc.proofs.VecSteps.Shapes.{after, head, arm_body}
use Rattle.std_alloc.proofs.vec.Blocks.{el, all}
use Rattle.std_alloc.proofs.vec.Spares.{Row, row_Typed, from_key, From, at_from, Made, from_goes, from_gives}
use Rattle.planus_back.proofs.Deeds.{Dd, right, deed_val, deed_made}
use Rattle.planus_back.specs.contracts.cells.allocate as F
use Rattle.planus_back.specs.contracts.cells.allocate.Key.{name as #self}
use Rattle.planus_back.proofs.cells.allocate.Statement as stated
use Rattle.planus_back.proofs.cells.allocate.Code as code

module _ (E : El) where
  abbrev here : Fn
  here = inst_fn (args E) code.function

  abbrev ended : Ended
  ended = F.ended E.row E.al.row E.al.g E.al.d E.al.drops

  abbrev stayed : Stays ended.signature.params ended.kept
  stayed = (stay_dropped (RefOf (0 ∷ []) tt (plain (λ _. P E)) (λ _. tt)) yes, (stay_dropped (plain (λ _. usize)) yes, tt))

  abbrev Three : RattleType
  Three = Tuple (RawPtr ∷ Row E ∷ Dd E ∷ [])

  abbrev Out : RattleType
  Out = result.the_row Three refusal.the_row

  abbrev made_val : ℕ → ℕ → ℕ → Val
  made_val b o n = vstruct (vcons (vptr b o) (vcons (row_val b o n) (vcons deed_val vnil)))

  module _ {M : Type 1} {𝓤 : Ura M} (𝓛 : Logic 𝓤) (at_mem : Memory → SProp 𝓤) (returning : Routine → Fun 𝓤) (𝓣 : Tables 𝓤 𝓛.H)
      (takes : Triple 𝓤 (𝓣.C (takes_key E.al)) (Takes E.al 𝓛 at_mem returning)) (makes : Triple 𝓤 (𝓣.C (from_key E)) (From E 𝓛 at_mem returning)) where
    open 𝓛 use {H}

    abbrev held : Clauses 𝓤 ended
    held = F.clauses E.row E.al.row E.al.g E.al.d E.al.drops 𝓛 at_mem returning

    abbrev Bound : Type 0
    Bound = (walk_of 𝓛 ended stayed held).Ghost

    abbrev Goes : Bound → Type 1
    Goes y = ent 𝓤 ((walk_of 𝓛 ended stayed held).pre y) (WpFn 𝓤 H 𝓣.C 𝓣.Λ here ((walk_of 𝓛 ended stayed held).args y) ((walk_of 𝓛 ended stayed held).post y))

    abbrev spelled : Bound → Bound
    spelled z = ((z.0.0, z.0.1, z.0.2, z.0.3, (shr_vals z.0.3.0, (uint_vals w64 z.0.3.1.0, tt))), z.1)

    exits : (z : Bound) (x : Out.Denot) (v : Val)
        → IfOk x (λ p. InBlock p.0 × (p.0 ≡ slots_ptr p.1) × (slots_len p.1 ≡ z.0.3.1.0) × (p.2.at ≡ p.0) × (p.2.len ≡ z.0.3.1.0) × (p.2.alloc ≡ z.0.3.0.now))
        → ent 𝓤 (sep 𝓤 (sem 𝓛 (Out.own_val x (v ∷ []))) (alive 𝓛 ended.signature z.0.0 z.0.1)) ((walk_of 𝓛 ended stayed held).post (spelled z) v)
    exits z x v said =
        qed 𝓛 (‵ (Out.own_val x (v ∷ [])) ∷ raw (alive 𝓛 ended.signature z.0.0 z.0.1) ∷ []) ∵
        suffices ! _ (ends_at 𝓛 ended stayed held (spelled z) v x (tt, (tt, tt)) (tt, (tt, tt))) $ says ! said $
        nothing ! $ nothing ! $ nothing ! $ fjoin3 ! $ move ! (2 ∷ 0 ∷ 1 ∷ []) $ done !

    walk : (z : Bound) → z.0.3.1.0 < 2 ^ 64 → Goes (spelled z)
    walk z fn =
        let κ = z.0.0.0 in let κ₁ = z.0.0.1.0 in let κ₂ = z.0.0.1.1.0 in let q = z.0.1.0 in let q₁ = z.0.1.1.0 in let q₂ = z.0.1.1.1.0 in
        let hp : ℕ × ℕ = z.0.3.0.ref_ptr in let a : Hd E = z.0.3.0.now in let n : ℕ = z.0.3.1.0 in
        let Post : Val → SProp 𝓤 = (walk_of 𝓛 ended stayed held).post (spelled z) in
        let Ok' : Type 0 = FitsInBlock (R E) n × el_x E in
        let s : ℕ = sz E in let al : ℕ = capped (align (elτ E)) in let τ : Ty = block_ty (el E) n in
        qed 𝓛 (((‵ (flft κ q) ⊛ ‵ (flft κ₁ q₁) ⊛ ‵ (flft κ₂ q₂) ⊛ ‵ ftrue) ⊛ ‵ (owns (types_at ended.signature.params z.0.0) z.0.3 (spelled z).0.4))
        ∷ (raw (fact 𝓤 (κ₁ ⊑ E.row.lives)) ⊛ raw (fact 𝓤 (κ₂ ⊑ E.al.row.lives)) ⊛ raw (fact 𝓤 Ok')) ∷ []) ∵
        move ! (1 ∷ []) $ split3 ! $ heard ! (κ₁ ⊑ E.row.lives) (λ inE. heard ! (κ₂ ⊑ E.al.row.lives) (λ inZ. heard ! Ok' (λ ok.
        let small : n * s < 2 ^ 63 = ok.0.0 in let fm : n * s < 2 ^ 64 = omega arith in
        let xs : List (el_x E) = replicate n ok.1 in let fs : List Bool = replicate (length xs) false in
        let lx : n ≡ length xs = sym (length-replicate n ok.1) in let lf : n ≡ length fs = lx ∙ sym (length-replicate (length xs) false) in
        split ! $ split3 ! $ move ! (3 ∷ []) $ fsplit ! $ fsplit ! $ keep ! (1 ∷ 3 ∷ 4 ∷ 5 ∷ []) $
        -- [the allocator; its token; the items' token; the other token]
        enter ! 𝓣.C 𝓣.Λ here (vptr hp.0 hp.1 ∷ vint w64 n ∷ []) _ $ alloc_all ! (λ l. pass_all ! refl ((tt, tt), ((tt, record { fits = fn }), tt)) $
        let En : Env 𝓤 H = env here.locals l in
        let both : Body = head (after 2 here.body) in
        let Then : After 𝓤 H = any_q (after_seq 𝓤 H (Wp 𝓤 H 𝓣.C 𝓣.Λ En (after 3 here.body) (at_return 𝓤 H En Post)) (at_return 𝓤 H En Post)) in
        let y : (Takes E.al 𝓛 at_mem returning).Ghost = at_takes E.al 𝓛 at_mem returning κ q hp a (n * s) al τ in
        sets ! (is ! (bin ! (get ! refl) (size_word !) (record { fits = subst (λ (k : ℕ). k < 2 ^ 64) (sym (uncapped n s fm)) fm })) (ap (vint w64) (uncapped n s fm))) refl (tt, record { fits = fm }) $
        use2 𝓛 (raw ((Takes E.al 𝓛 at_mem returning).pre y))
        (Takes-goes E.al 𝓛 at_mem returning κ q hp a (Incl-trans z.0.2.0 inZ) (n * s) al τ (block_size (el E) n fm) (block_align (el E) n) fm (capped_fits (align (elτ E)))) $
        calls_at ! (fm_of 𝓤 H 𝓛.laws 𝓣) (Takes E.al 𝓛 at_mem returning) takes y (and_then ! (get ! refl) (and_then ! (get ! refl) (and_then ! (align_word !) (no_more !)))) (λ v.
        use1 𝓛 (later (raw (Answered E.al 𝓛 at_mem returning a τ v) ⊛ ‵ (flft κ q))) (Takes-gives E.al 𝓛 at_mem returning κ q hp a (n * s) al τ v) $ await ! tt $ split ! $
        answers E.al ! at_mem returning a τ v
        (λ b o e.
        let words : WT (row_val b o n) = (tt, (record { fits = fn }, tt)) in
        let parts : WT (made_val b o n) = (tt, (words, ((tt, tt), tt))) in
        let whole_ok : WT (live 0 (vcons (made_val b o n) vnil)) = (record { fits = lit< tt }, (parts, tt)) in
        let y' : (From E 𝓛 at_mem returning).Ghost = at_from E 𝓛 at_mem returning κ₁ q₁ b o n xs fs in
        lands_as ! e refl (Answer-typed true b o) $ first ! $ switches_on ! (get_tag ! (vrt ! refl (fld ! refl (stop !))) (whole !)) $ exec ! 𝓣.C 𝓣.Λ En (arm_body 0 both) Then $
        sets ! (of_opd ! (get_in ! (vrt ! refl (fld ! refl (stop !))) (in_variant ! 0 0 refl refl (whole !)))) refl (tt, tt) $ sets ! (of_opd ! (get ! refl)) refl (tt, tt) $
        use1 𝓛 (‵ (froom (ty_array (elτ E) n) b o)) (𝓛.laws.raw-room (ty_array (elτ E) n) b o) $ rewrite ! 0 (λ (k : ℕ). ‵ (froom (ty_array (elτ E) k) b o)) lx refl $
        use1 𝓛 (‵ (all E b o xs fs)) (of_room (el E) 𝓛 b xs o) $ move ! (0 ∷ 3 ∷ []) $
        first ! $ blocks ! $ use2 𝓛 (raw ((From E 𝓛 at_mem returning).pre y')) (from_goes E 𝓛 at_mem returning κ₁ q₁ b o n xs fs inE lx lf fn small) $
        calls_at_last ! (fm_of 𝓤 H 𝓛.laws 𝓣) (From E 𝓛 at_mem returning) makes y' (and_then ! (get ! refl) (and_then ! (get ! refl) (no_more !))) (λ w.
        use1 𝓛 (later (some (λ (r : (Row E).Denot). given ((w ≡ row_val b o n) × Made E 𝓛 at_mem returning κ₁ q₁ b o n xs fs r) (‵ ((Row E).own_val r (row_val b o n ∷ [])) ⊛ ‵ (flft κ₁ q₁)))))
        (from_gives E 𝓛 at_mem returning κ₁ q₁ b o n xs fs w) $ await ! tt $ pick ! (λ r. learn ! (λ got. split ! $
        let d : (Dd E).Denot = right E a (block_ptr b o) n in
        lands_last ! refl (row_Typed E w b o n got.0 fn) $ exec ! 𝓣.C 𝓣.Λ En (after 3 (arm_body 0 both)) Then $
        -- [the places; the items' token; the right to give the block back; the allocator's token; the other token]
        sets ! (is ! (of_opd ! (get ! refl)) got.0) refl (tt, words) $ sets ! (of_opd ! (get ! refl)) refl (tt, words) $
        sets ! (agg ! (no_more !)) refl (tt, tt) $ sets ! (agg ! (and_then ! (get ! refl) (no_more !))) refl (tt, (tt, tt)) $
        sets ! (agg ! (and_then ! (get ! refl) (and_then ! (get ! refl) (and_then ! (get ! refl) (no_more !))))) refl (tt, parts) $
        sets_last ! (agg ! (and_then ! (lit ! tt) (and_then ! (get ! refl) (no_more !)))) refl (tt, whole_ok) $
        exec ! 𝓣.C 𝓣.Λ En (after 3 here.body) (at_ret En Post) $ sets ! (of_opd ! (get ! refl)) refl (tt, whole_ok) $
        move ! (2 ∷ []) $ deed_made E ! a (block_ptr b o) n $ nothing ! $ move ! (1 ∷ 0 ∷ []) $ fjoin ! $ move ! (1 ∷ 0 ∷ []) $ fjoin ! $
        feq_i ! (List Val) (vptr b o ∷ []) (vptr b o ∷ []) refl $ fjoin ! $ feq_i ! (List Val) (made_val b o n ∷ []) (made_val b o n ∷ []) refl $ fjoin ! $
        fpack ! (Valss (RawPtr ∷ Row E ∷ Dd E ∷ [])) (within (Declared.shape (tuple_type (RawPtr ∷ Row E ∷ Dd E ∷ []))) (block_ptr b o, (r, (d, tt))) (made_val b o n ∷ [])) (vptr b o ∷ [], (row_val b o n ∷ [], (deed_val ∷ [], tt))) $
        use1 𝓛 (‵ (Out.own_val (Ok (block_ptr b o, r, d)) (live 0 (vcons (made_val b o n) vnil) ∷ []))) (ok_of 𝓛 Three refusal.the_row (block_ptr b o, r, d) (made_val b o n)) $
        returns ! (look_at ! 0 refl) $ free_all ! refl $
        move ! (1 ∷ 3 ∷ []) $ join ! $ move ! (2 ∷ 0 ∷ []) $ join ! $ move ! (1 ∷ 0 ∷ []) $
        by ! (exits z (Ok (block_ptr b o, r, d)) (live 0 (vcons (made_val b o n) vnil)) (tt, sym got.1.0, got.1.1, refl, refl, refl))))))
        (λ e.
        let Refused : RattleType = Struct (Declared.shape refusal.the_type) in
        let none : WT (live 1 (vcons (vstruct vnil) vnil)) = (record { fits = lit< tt }, (tt, tt)) in
        lands_as ! e refl (Answer-typed false 0 0) $ first ! $ switches_on ! (get_tag ! (vrt ! refl (fld ! refl (stop !))) (whole !)) $ exec ! 𝓣.C 𝓣.Λ En (arm_body 1 both) Then $
        sets ! (of_opd ! (get_in ! (vrt ! refl (fld ! refl (stop !))) (in_variant ! 1 0 refl refl (whole !)))) refl (tt, tt) $
        sets_last ! (agg ! (and_then ! (lit ! tt) (and_then ! (get ! refl) (no_more !)))) refl (tt, none) $
        exec ! 𝓣.C 𝓣.Λ En (after 3 here.body) (at_ret En Post) $ sets ! (of_opd ! (get ! refl)) refl (tt, none) $
        owned ! Refused (Is Refused) (Struct-Makes 𝓛 (Declared.shape refusal.the_type) tt) tt (vstruct vnil ∷ []) (tt, (refl, tt)) $
        use1 𝓛 (‵ (Out.own_val (Err (record {})) (live 1 (vcons (vstruct vnil) vnil) ∷ []))) (err_of 𝓛 Three refusal.the_row (record {}) (vstruct vnil)) $
        returns ! (look_at ! 0 refl) $ free_all ! refl $
        move ! (2 ∷ 3 ∷ []) $ join ! $ move ! (2 ∷ 0 ∷ []) $ join ! $ move ! (1 ∷ 0 ∷ []) $
        by ! (exits z (Err (record {})) (live 1 (vcons (vstruct vnil) vnil)) tt)))))))

    meets : Meets 𝓛 ended.signature (WpFn 𝓤 H 𝓣.C 𝓣.Λ here) (closing 𝓛 ended held)
    meets =
        walk_Meets 𝓛 ended stayed (Goes-dropped 𝓛 3 (RefOf (0 ∷ []) tt (plain (λ _. P E)) (λ _. tt)) yes (λ κs x f. refl), (Goes-dropped 𝓛 3 (plain (λ _. usize)) yes (λ κs x f. refl), tt)) held
        (WpFn 𝓤 H 𝓣.C 𝓣.Λ here) (WpFn-mono 𝓤 H 𝓛.laws 𝓣 here)
        (walked 𝓛 ended stayed held (WpFn 𝓤 H 𝓣.C 𝓣.Λ here) (λ κs. (shr_vals, (uint_vals w64, tt))) (λ κs. (shr_Tells (named 0) κs.0 (P E), (uint_Tells w64, tt)))
        (λ κs qs bounds a g are. walk ((κs, qs, bounds, a, (shr_vals a.0, (uint_vals w64 a.1.0, tt))), g) are.1.0.1))

pub allocate_spec : {M : Type 1} → stated.statement M
unfolding tables_of
allocate_spec 𝓤 𝓛 𝓜 𝓡 wired X Z L LZ g d dd met md =
    let E : El = record { row = X; laws = L; al = record { row = Z; laws = LZ; g = g; d = d; drops = dd } } in
    let 𝓣 : Tables 𝓤 𝓛.H = tables_of 𝓤 𝓛.H 𝓜 (tables 𝓤 𝓛.H 𝓜 𝓡 𝓡.env) in
    entered 𝓤 𝓛.H (triple_of 𝓛 (ended E).signature (F.spec X Z g d dd 𝓛 𝓜.mem 𝓡.returns)) 𝓣.C 𝓣.Λ (#self (args E)) (here E) (code.unfolded 𝓤 𝓛.H 𝓜 𝓡 wired (X, (Z, tt)) d dd)
    (meets E 𝓛 𝓜.mem 𝓡.returns 𝓣 (met.allocate dd) (callee.met 𝓤 𝓛 𝓜 𝓡 (code.calls-core::slots::Slots::from_raw_parts 𝓡.env wired) X L))
