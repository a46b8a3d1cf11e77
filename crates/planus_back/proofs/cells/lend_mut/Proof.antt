-- `lend_mut` lends such a run to be written.
use mathlib.Core.Path.{◌≡◌, refl, sym, ap, subst, ◌∙◌}
use Prim.Native.Nat.{ℕ, ◌+◌, ◌*◌, ◌<◌, ◌≤◌, ◌^◌}
use native.Mathlib.Omega.{arith}
use mathlib.Core.Bool.{Bool, true, false}
use mathlib.Core.List.{List, [], ◌∷◌}
use lib.ListN.{length, get_or, take, drop, length-take, length-drop}
use lib.Seq.{take_at as take_front}
use seplogic.Ra.Ura.{Ura}
use mir.Syntax.{Fn, ty_ptr, w64, named}
use mir.Val.{Val, vint, vptr}
use mir.MapTy.{inst_fn}
use base.Logic.{SProp, ent, sep}
use base.Fraction.{full_share}
use base.Fml.{GName, Fml, ftrue, fsep, fat, flft}
use prog.Memory.{Memory}
use prog.Routine.{Routine}
use prog.Wp.{Env, WpFn, Tables}
use types.Logic.{Logic, sem}
use types.SemTy.{cells}
use contract.BorrowLft.{◌⊑◌}
use contract.Monad.{Fun, fact}
use contract.Running.{tables, tables_of}
use sound.WpLaws.{WpFn-mono}
use denote.RattleType.{owns}
use denote.Signature.{plain, types_at}
use denote.Steps.{heard, nothing}
use denote.Triple.Clauses.{Clauses, Ended, closing}
use denote.Triple.Spec.{Meets, triple_of}
use denote.Triple.Table.{entered}
use denote.Triple.Walked.{says, Stays, stay_dropped, walk_of, ends_at, walked, Goes-dropped, Goes-spent_ref, walk_Meets}
use types.Kit.{‵, raw, ◌⊛◌, at_ret, ◌$◌, ◌∵◌, !, qed, move, keep, use1, use2, drop as leave, split, split3, join, pick, await, later, some, group, frame, fpack, fsplit, fsplit3, fjoin, rewrite, suffices, done}
use types.Part.{agg}
use types.Run.{size_word, of_opd, bin, and_then, no_more, first, blocks, exec, returns, enter}
use types.ByLocal.{take_at, give_at, alloc_all, pass_all, free_all, look_at, get, sets, sets_last, is, env}
use denote.Exit.{yes, no}
use denote.Builtin.{usize, RefMutOf}
use denote.Memory.{mem, cell_at, part_of}
use denote.Array.{Array}
use denote.Follow.{follows}
use denote.FollowSlice.{lends_Elements}
use denote.Plain.{uint_vals, uint_Tells}
use denote.RawPtr.{RawPtr, Ptr, block_ptr, ptr_val, rawptr_vals, rawptr_Tells, rawptr_Lawful}
use denote.Ref.{MutBor, mut_vals, mut_Tells}
use denote.Slice.{MutSlice, slice_val}
use Rattle.core.proofs.mem.Param.{El, R, args, el_x}
use Rattle.core.proofs.ptr.Rows.{times_below}
use Rattle.core.specs.Mem.Slots.Ownership.{slots, Filled}
use Rattle.core.proofs.slots.Bodies.{after}
use Rattle.core.proofs.slots.Leases.{uncapped}
use Rattle.core.proofs.slots.Places.{sz}
use Rattle.core.proofs.slots.Opens.{Sr, el_d, row_val, row_made, row_opens}
use Rattle.core.proofs.slots.Runs.{run, spliced, unspliced, in_run, run_long, spliced_long, Around, run_out, run_in}
use Rattle.planus_back.specs.inner.Cells.{slots_with_run}
use Rattle.planus_back.proofs.Runs.{to_cells, of_cells}
use Rattle.planus_back.specs.contracts.cells.lend_mut as F
use Rattle.planus_back.specs.contracts.cells.lend_mut.Key.{name as #self}
use Rattle.planus_back.proofs.cells.lend_mut.Statement as stated
use Rattle.planus_back.proofs.cells.lend_mut.Code as code

run_full : (fs : List Bool) (i n : ℕ) → Filled fs i (i + n) → (k : ℕ) → k < n → get_or (run fs i n) k false ≡ true
run_full fs i n full k lt = in_run fs i n k false lt ∙ full (i + k) (omega arith) (omega arith)

module _ (E : El) {M : Type 1} {𝓤 : Ura M} (𝓛 : Logic 𝓤) (rb ro b o : ℕ) (h : el_d E) (i n : ℕ) where
  abbrev Rest : Fml
  Rest = fsep (Around E 𝓛 b o h.items h.filled i n) (cell_at full_share (Sr E).mir (row_val b o h.len ∷ []) rb ro)

  back : h.ptr ≡ block_ptr b o → h.len * sz E < 2 ^ 63 → i + n ≤ length h.items → Filled h.filled i (i + n) → (ws : List (el_x E)) → length ws ≡ length (run h.items i n)
      → ent 𝓤 (sep 𝓤 (sem 𝓛 (cells (mem (R E)) ws b (i * sz E + o))) (sem 𝓛 Rest)) (sem 𝓛 ((mem (Sr E)).own_at (slots_with_run h i n ws) rb ro))
  unfolding part_of
  back at_b fit fits full ws same =
      let at : ℕ = i * sz E + o in let d : el_d E = slots_with_run h i n ws in let gs = run h.filled i n in
      let xs_fs : length h.filled ≡ length h.items = sym h.ok.1 ∙ h.ok.0 in
      let long : length ws ≡ n = same ∙ run_long h.items i n fits in let count : length gs ≡ n = run_long h.filled i n (omega arith) in
      let whole : d.items ≡ spliced h.items i n ws = take_front (spliced h.items i n ws) (drop (length (spliced h.items i n ws)) h.items) h.len (spliced_long h.items i n fits ws long ∙ sym h.ok.0) in
      qed 𝓛 (‵ (cells (mem (R E)) ws b at) ∷ ‵ Rest ∷ []) ∵
      use1 𝓛 (‵ (slots (R E) (block_ptr b at) ws gs)) (of_cells E 𝓛 b ws gs at (count ∙ sym long) (λ k lt. run_full h.filled i n full k (omega arith))) $
      move ! (1 ∷ []) $ fsplit ! $ move ! (2 ∷ 0 ∷ []) $
      use2 𝓛 (‵ (slots (R E) (block_ptr b o) (spliced h.items i n ws) (spliced h.filled i n gs))) (run_in E 𝓛 b o h.items h.filled i n fits xs_fs ws gs long count) $
      rewrite ! 0 (λ (fs : List Bool). ‵ (slots (R E) (block_ptr b o) (spliced h.items i n ws) fs)) (unspliced h.filled i n) refl $
      rewrite ! 0 (λ (xs : List (el_x E)). ‵ (slots (R E) (block_ptr b o) xs h.filled)) (sym whole) refl $
      row_made E ! d b o at_b h.small fit $ move ! (1 ∷ 0 ∷ []) $ fjoin ! $
      fpack ! (List Val) (λ us. fsep (cell_at full_share (Sr E).mir us rb ro) ((Sr E).own_val d us)) (row_val b o h.len ∷ []) $ done !

module _ (E : El) where
  abbrev here : Fn
  here = inst_fn (args E) code.function

  abbrev ended : Ended
  ended = F.ended E.row

  abbrev stayed : Stays ended.signature.params ended.kept
  stayed = (stay_dropped (RefMutOf (0 ∷ []) tt (plain (λ _. Sr E)) (λ _. tt)) no, (stay_dropped (plain (λ _. RawPtr)) yes, (stay_dropped (plain (λ _. usize)) yes, (stay_dropped (plain (λ _. usize)) yes, tt))))

  module _ {M : Type 1} {𝓤 : Ura M} (𝓛 : Logic 𝓤) (at_mem : Memory → SProp 𝓤) (returning : Routine → Fun 𝓤) (𝓣 : Tables 𝓤 𝓛.H) where
    open 𝓛 use {H}

    abbrev held : Clauses 𝓤 ended
    held = F.clauses E.row 𝓛 at_mem returning

    abbrev Bound : Type 0
    Bound = (walk_of 𝓛 ended stayed held).Ghost

    abbrev Goes : Bound → Type 1
    Goes y = ent 𝓤 ((walk_of 𝓛 ended stayed held).pre y) (WpFn 𝓤 H 𝓣.C 𝓣.Λ here ((walk_of 𝓛 ended stayed held).args y) ((walk_of 𝓛 ended stayed held).post y))

    abbrev spelled : Bound → Bound
    spelled z = ((z.0.0, z.0.1, z.0.2, z.0.3, (mut_vals z.0.3.0, (rawptr_vals z.0.3.1.0, (uint_vals w64 z.0.3.1.1.0, (uint_vals w64 z.0.3.1.1.1.0, tt))))), z.1)

    walk : (z : Bound) → z.0.3.1.1.0 < 2 ^ 64 → z.0.3.1.1.1.0 < 2 ^ 64 → Goes (spelled z)
    walk z small_from small_len =
        let κ = z.0.0.0 in let κ₁ = z.0.0.1.0 in let q = z.0.1.0 in let q₁ = z.0.1.1.0 in
        let p : Ptr = z.0.3.1.0 in let rb : ℕ = z.0.3.0.ref_ptr.0 in let ro : ℕ = z.0.3.0.ref_ptr.1 in let γ : GName = z.0.3.0.ghost_name in let h : el_d E = z.0.3.0.now in
        let from : ℕ = z.0.3.1.1.0 in let len : ℕ = z.0.3.1.1.1.0 in
        let Post : Val → SProp 𝓤 = (walk_of 𝓛 ended stayed held).post (spelled z) in
        let Ok : Type 0 = (p ≡ h.ptr) × (from + len ≤ h.len) × Filled h.filled from (from + len) in
        let s : ℕ = sz E in
        let lx : h.len ≡ length h.items = h.ok.0 in let lf : h.len ≡ length h.filled = h.ok.1 in
        qed 𝓛 (((‵ (flft κ q) ⊛ ‵ (flft κ₁ q₁) ⊛ ‵ ftrue) ⊛ ‵ (owns (types_at ended.signature.params z.0.0) z.0.3 (spelled z).0.4)) ∷ (raw (fact 𝓤 (κ₁ ⊑ E.row.lives)) ⊛ raw (fact 𝓤 Ok)) ∷ []) ∵
        move ! (1 ∷ []) $ split ! $ leave ! $ heard ! Ok (λ ok.
        let inside : from + len ≤ h.len = ok.1 in
        let xs : List (el_x E) = take len (drop from h.items) in
        let long : length xs ≡ len = omega (arith, length-take len (drop from h.items), length-drop from h.items) in
        let xs_fs : length h.filled ≡ length h.items = sym lf ∙ lx in let fitting : from + len ≤ length h.items = omega arith in
        split ! $ split ! $ move ! (2 ∷ []) $ fsplit ! $ fsplit3 ! $ keep ! (1 ∷ 2 ∷ 4 ∷ 5 ∷ []) $
        enter ! 𝓣.C 𝓣.Λ here (vptr rb ro ∷ ptr_val p ∷ vint w64 from ∷ vint w64 len ∷ []) _ $ alloc_all ! (λ l.
        pass_all ! refl ((tt, tt), (((rawptr_Lawful 𝓛).typed p (ptr_val p ∷ []) refl).0, ((tt, record { fits = small_from }), ((tt, record { fits = small_len }), tt)))) $
        let En : Env 𝓤 H = env here.locals l in
        row_opens E ! tt h rb ro (λ b o at_b fl fit.
        let far : from * s < 2 ^ 64 = omega (arith, times_below from h.len s (2 ^ 63) (omega arith) fit) in
        let at : ℕ = from * s + o in let full = run_full h.filled from len ok.2 in
        let roomy : length xs < 2 ^ 64 = omega arith in let small : length xs * s < 2 ^ 63 = times_below (length xs) h.len s (2 ^ 63) (omega arith) fit in
        let Left = sem 𝓛 (Rest E 𝓛 rb ro b o h from len) in let way = back E 𝓛 rb ro b o h from len at_b fit fitting ok.2 in
        take_at ! 2 $ rewrite ! 0 (λ (c : Ptr). ‵ (fat full_share ty_ptr (l 2) 0 (ptr_val c))) (ok.0 ∙ at_b) refl $ give_at ! 2 $
        -- [the places; the two words; the open borrow; obs; auth; a token; the locals]
        first ! $ blocks ! $
        sets ! (is ! (bin ! (get ! refl) (size_word !) (record { fits = subst (λ (k : ℕ). k < 2 ^ 64) (sym (uncapped from s far)) far })) (ap (vint w64) (uncapped from s far))) refl (tt, record { fits = far }) $
        sets ! (bin ! (get ! refl) (get ! refl) tt) refl (tt, tt) $
        sets_last ! (agg ! (and_then ! (get ! refl) (and_then ! (get ! refl) (no_more !)))) refl (tt, (tt, (record { fits = small_len }, tt))) $
        exec ! 𝓣.C 𝓣.Λ En (after 1 here.body) (at_ret En Post) $ sets ! (of_opd ! (get ! refl)) refl (tt, (tt, (record { fits = small_len }, tt))) $
        use1 𝓛 (‵ (slots (R E) (block_ptr b at) xs (run h.filled from len)) ⊛ ‵ (Around E 𝓛 b o h.items h.filled from len)) (run_out E 𝓛 b o h.items h.filled from len fitting xs_fs) $ split ! $
        use1 𝓛 (‵ (cells (mem (R E)) xs b at)) (to_cells E 𝓛 b xs (run h.filled from len) at (run_long h.filled from len (omega arith) ∙ sym long) (λ k lt. full k (omega arith))) $
        move ! (1 ∷ 2 ∷ []) $ fjoin ! $ move ! (2 ∷ 3 ∷ 4 ∷ 1 ∷ 0 ∷ []) $ group ! 5 $
        use1 𝓛 (later (some (λ (δ : GName). ‵ ((MutSlice (named 0) κ (R E)).own_val (record { ref_ptr = (b, at); ghost_name = δ; now = xs }) (slice_val (b, at) (length xs) ∷ [])) ⊛ ‵ (flft κ q) ⊛ ‵ (follows (Sr E) (Array (R E) 0) γ δ (slots_with_run h from len)))))
        (lends_Elements 𝓛 (Sr E) (R E) (slots_with_run h from len) (named 0) κ q rb ro b at γ xs (roomy, small) Left way ((Sr E).coded.code h) ((Sr E).coded.code h)) $ await ! tt $ pick ! (λ δ. split3 ! $
        let r : MutBor (List (el_x E)) = record { ref_ptr = (b, at); ghost_name = δ; now = xs } in
        rewrite ! 0 (λ (k : ℕ). ‵ ((MutSlice (named 0) κ (R E)).own_val r (slice_val (b, at) k ∷ []))) long refl $
        returns ! (look_at ! 0 refl) $ free_all ! refl $
        suffices ! _ (ends_at 𝓛 ended stayed held (spelled z) (slice_val (b, at) len) r (tt, (tt, (tt, (tt, tt)))) (tt, (tt, (tt, (tt, tt))))) $
        nothing ! $ nothing ! $ fjoin ! $ nothing ! $ fjoin ! $ nothing ! $ fjoin ! $ nothing ! $ fjoin ! $
        join ! $ move ! (1 ∷ 3 ∷ []) $ join ! $ join ! $ frame ! $ says ! refl $ keep ! (0 ∷ []) $ done !))))

    meets : Meets 𝓛 ended.signature (WpFn 𝓤 H 𝓣.C 𝓣.Λ here) (closing 𝓛 ended held)
    meets =
        let number = Goes-dropped 𝓛 2 (plain (λ _. usize)) yes (λ κs x f. refl) in
        walk_Meets 𝓛 ended stayed (Goes-spent_ref 𝓛 2 (0 ∷ []) tt (plain (λ _. Sr E)), (Goes-dropped 𝓛 2 (plain (λ _. RawPtr)) yes (λ κs x f. refl), (number, (number, tt)))) held
        (WpFn 𝓤 H 𝓣.C 𝓣.Λ here) (WpFn-mono 𝓤 H 𝓛.laws 𝓣 here)
        (walked 𝓛 ended stayed held (WpFn 𝓤 H 𝓣.C 𝓣.Λ here) (λ κs. (mut_vals, (rawptr_vals, (uint_vals w64, (uint_vals w64, tt)))))
        (λ κs. (mut_Tells (named 0) κs.0 (Sr E), (rawptr_Tells, (uint_Tells w64, (uint_Tells w64, tt)))))
        (λ κs qs bounds a g are. walk ((κs, qs, bounds, a, (mut_vals a.0, (rawptr_vals a.1.0, (uint_vals w64 a.1.1.0, (uint_vals w64 a.1.1.1.0, tt))))), g) are.1.1.0.1 are.1.1.1.0.1))

pub lend_mut_spec : {M : Type 1} → stated.statement M
unfolding tables_of
lend_mut_spec 𝓤 𝓛 𝓜 𝓡 wired X L =
    let E : El = record { row = X; laws = L } in
    let 𝓣 : Tables 𝓤 𝓛.H = tables_of 𝓤 𝓛.H 𝓜 (tables 𝓤 𝓛.H 𝓜 𝓡 𝓡.env) in
    entered 𝓤 𝓛.H (triple_of 𝓛 (F.signature X) (F.spec X 𝓛 𝓜.mem 𝓡.returns)) 𝓣.C 𝓣.Λ (#self (args E)) (here E) (code.unfolded 𝓤 𝓛.H 𝓜 𝓡 wired (X, tt))
    (meets E 𝓛 𝓜.mem 𝓡.returns 𝓣)
