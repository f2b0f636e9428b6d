-- The piece is counted, and goes back to the inner allocator. Assumes `Logic`.
use Rattle.std.proofs.Common.{◌≡◌, ℕ, ◌^◌, ◌<◌, List, [], ◌∷◌, refl, w64, Bor}
use seplogic.Ra.Ura.{Ura}
use mir.Syntax.{Ty, Args, Fn, a_type, dnil, dcons}
use mir.Val.{Val, vunit, vint, vptr}
use mir.MapTy.{inst_fn}
use base.Logic.{SProp, ent, id⊢, never_e}
use base.Fml.{Lft, Share, ftrue, ffalse, fsep, froom, flft}
use prog.Memory.{Memory, size, align, capped}
use prog.Routine.{Routine}
use prog.Wp.{WpFn, Tables}
use types.Logic.{Logic}
use contract.BorrowLft.{◌⊑◌, ⊑_trans}
use contract.Monad.{Fun, fact}
use contract.Running.{tables, tables_of}
use sound.WpLaws.{fm_of, WpFn-mono}
use types.Run.{stop, fld, unit_lit, addr, of_opd, no_more, and_then, returns, enter}
use denote.Exit.{yes}
use denote.RattleType.{owns}
use denote.Ref.{shr_vals}
use denote.Opens.{unhide}
use denote.Param.{bounded, param}
use denote.Plain.{uint_vals, uint_Tells}
use denote.Signature.{Slot, plain, types_at}
use denote.Steps.{heard, nothing}
use denote.Triple.Clauses.{Ended, Clauses}
use denote.Triple.Spec.{triple_of}
use denote.Triple.Statement.{Triple}
use denote.Triple.Table.{entered, cited}
use denote.Triple.Walked.{Stays, stay_dropped, walk_of, ends_at, walked, Goes-dropped, walk_Meets}
use types.Kit.{Item, ‵, raw, ◌⊛◌, later, given, learn, ◌$◌, ◌∵◌, !, qed, by, move, keep, use1, use2, split, split3, join, fsplit, fjoin, feq_i, suffices, await, done}
use types.ByLocal.{alloc_all, pass_all, free_all, look_at, get, through, sets, lands_as}
use denote.RawPtr.{Ptr, block_ptr, null_ptr, ptr_val, rawptr_vals, rawptr_Tells}
use denote.Builtin.{usize, RawPtr, RefOf}
use denote.Triple.Call.{calls_at}
use Rattle.std.proofs.alloc.Calls.{Al, seen, token, gives_key, Gives, at_gives, Gives-goes, Gives-Gives}
use Rattle.test_fixtures.proofs.Asked.{inner_at, gate_at, TakesBack, to_gate, gives, back}
use Rattle.test_fixtures.proofs.refusing_alloc.takes_back.Symbol as gate_symbol
use Rattle.test_fixtures.proofs.refusing_alloc.takes_back.Met as gate_met
use Rattle.test_fixtures.specs.contracts.refusing_alloc.Refusing as S
use Rattle.test_fixtures.specs.contracts.refusing_alloc.RefusingAllocator.deallocate as F
use Rattle.test_fixtures.specs.contracts.refusing_alloc.RefusingAllocator.deallocate.Key as key
use Rattle.test_fixtures.proofs.refusing_alloc.RefusingAllocator.deallocate.Statement as stated
use Rattle.test_fixtures.proofs.refusing_alloc.RefusingAllocator.deallocate.Code as code

module _ (Z : Al) where
  abbrev called : Args
  called = bounded (a_type ∷ []) (Z.row, tt) (dcons Z.d (dcons Z.drops dnil))

  abbrev fn : Fn
  fn = inst_fn called code.function

  abbrev itself : Slot 2
  itself = RefOf (0 ∷ []) tt (plain (λ _. S.the_row (param 0 Z.row))) (λ _. tt)

  abbrev piece : Slot 2
  piece = plain (λ _. RawPtr)

  abbrev number : Slot 2
  number = plain (λ _. usize)

  abbrev ended : Ended
  ended = F.ended Z.row Z.g Z.d Z.drops

  abbrev stays : Stays ended.signature.params ended.kept
  stays = (stay_dropped itself yes, (stay_dropped piece yes, (stay_dropped number yes, (stay_dropped number yes, tt))))

module _ (Z : Al) {M : Type 1} {𝓤 : Ura M} (𝓛 : Logic 𝓤) (at_mem : Memory → SProp 𝓤) (run : Routine → Fun 𝓤) (𝓣 : Tables 𝓤 𝓛.H) where
  open 𝓛 use {H}

  abbrev said : Clauses 𝓤 (ended Z)
  said = F.clauses Z.row Z.g Z.d Z.drops 𝓛 at_mem run

  module _ (κ ρ : Lft) (q s : Share) (out : κ ⊑ ρ) (me : Bor (S.the_row Z.row).Denot) (n a : ℕ) (τ : Ty) where
    abbrev bound : Ptr → (walk_of 𝓛 (ended Z) (stays Z) said).Ghost
    bound p = (((κ, (ρ, tt)), (q, (s, tt)), (out, tt), (me, (p, (n, (a, tt)))), (shr_vals me, (rawptr_vals p, (vint w64 n ∷ [], (vint w64 a ∷ [], tt))))), τ)

    abbrev Post : Ptr → Val → SProp 𝓤
    Post p = (walk_of 𝓛 (ended Z) (stays Z) said).post (bound p)

    abbrev passed : Ptr → List Val
    passed p = vptr me.ref_ptr.0 me.ref_ptr.1 ∷ ptr_val p ∷ vint w64 n ∷ vint w64 a ∷ []

    abbrev given_in : Ptr → Item 𝓤
    given_in p = (‵ (flft κ q) ⊛ ‵ (flft ρ s) ⊛ ‵ ftrue) ⊛ ‵ (owns (types_at (ended Z).signature.params (bound p).0.0) (bound p).0.3 (bound p).0.4)

    abbrev Asks : Type 0
    Asks = (capped (size τ) ≡ n) × (capped (align τ) ≡ a)

    walk : Triple 𝓤 (𝓣.C (gives_key Z)) (Gives Z 𝓛 at_mem run) → Triple 𝓤 (𝓣.C gate_symbol.name) (TakesBack 𝓛 at_mem run) → n < 2 ^ 64 → a < 2 ^ 64 → (p : Ptr)
        → ent 𝓤 ((walk_of 𝓛 (ended Z) (stays Z) said).pre (bound p)) (WpFn 𝓤 H 𝓣.C 𝓣.Λ (fn Z) (passed p) (Post p))
    walk frees gate small slim null_ptr =
        qed 𝓛 (given_in null_ptr ∷ (raw (fact 𝓤 (ρ ⊑ Z.row.lives)) ⊛ raw (fact 𝓤 Asks) ⊛ ‵ (fsep ffalse (token Z me.now.inner τ null_ptr))) ∷ []) ∵
        move ! (1 ∷ []) $ split3 ! $ move ! (2 ∷ []) $ fsplit ! $ keep ! (0 ∷ []) $ by ! (never_e 𝓤 _)
    walk frees gate small slim (block_ptr b o) =
        let h = me.now.inner in
        let inner = inner_at Z me.ref_ptr in
        let place = gate_at Z me.ref_ptr in
        let g = me.now.gate in
        let y = at_gives Z 𝓛 at_mem run κ q inner h b o n a τ in
        let p = block_ptr b o in
        qed 𝓛 (given_in p ∷ (raw (fact 𝓤 (ρ ⊑ Z.row.lives)) ⊛ raw (fact 𝓤 Asks) ⊛ ‵ (fsep (froom τ b o) (token Z h τ p))) ∷ []) ∵
        move ! (1 ∷ []) $ split3 ! $ heard ! (ρ ⊑ Z.row.lives) (λ long. heard ! Asks (λ asked. move ! (1 ∷ []) $
        split ! $ split ! $ move ! (2 ∷ []) $ fsplit ! $ fsplit ! $ move ! (1 ∷ []) $ unhide ! $ fsplit ! $ fsplit ! $
        use1 𝓛 (‵ (seen Z κ inner h)) (id⊢ 𝓤 _) $ move ! (1 ∷ []) $ fsplit ! $ keep ! (0 ∷ 6 ∷ 2 ∷ 7 ∷ 8 ∷ []) $
        enter ! 𝓣.C 𝓣.Λ (fn Z) (passed p) (Post p) $ alloc_all ! (λ l. pass_all ! refl ((tt, tt), ((tt, tt), ((tt, record { fits = small }), ((tt, record { fits = slim }), tt)))) $
        -- [the gate; the token of κ; the inner allocator; the other tokens; the piece]
        sets ! (addr ! (through ! refl (fld ! refl (stop !)))) refl (tt, tt) $
        use2 𝓛 (raw ((TakesBack 𝓛 at_mem run).pre (to_gate 𝓛 at_mem run κ q place g))) (gives 𝓛 at_mem run κ q place g) $
        calls_at ! (fm_of 𝓤 H 𝓛.laws 𝓣) (TakesBack 𝓛 at_mem run) gate (to_gate 𝓛 at_mem run κ q place g) (and_then ! (get ! refl) (no_more !)) (λ u.
        use1 𝓛 (later (given (u ≡ vunit) (‵ (flft κ q)))) (back 𝓛 at_mem run κ q place g u) $ await ! tt $ learn ! (λ is. lands_as ! is refl (tt, tt) $ move ! (1 ∷ []) $
        -- [the inner allocator; the token of κ; the other tokens; the piece]
        sets ! (addr ! (through ! refl (fld ! refl (stop !)))) refl (tt, tt) $
        join ! $ move ! (2 ∷ []) $ fsplit ! $ move ! (1 ∷ 2 ∷ []) $ join ! $ move ! (1 ∷ 0 ∷ []) $ join ! $
        use1 𝓛 (raw ((Gives Z 𝓛 at_mem run).pre y)) (Gives-goes Z 𝓛 at_mem run κ q inner h (⊑_trans κ ρ Z.row.lives out long) b o n a τ asked.0 asked.1 small slim) $
        calls_at ! (fm_of 𝓤 H 𝓛.laws 𝓣) (Gives Z 𝓛 at_mem run) frees y (and_then ! (get ! refl) (and_then ! (get ! refl) (and_then ! (get ! refl) (and_then ! (get ! refl) (no_more !))))) (λ v.
        use1 𝓛 (later (given (v ≡ vunit) (‵ (flft κ q)))) (Gives-Gives Z 𝓛 at_mem run κ q inner h b o n a τ v) $ await ! tt $ learn ! (λ e.
        lands_as ! e refl (tt, tt) $ sets ! (of_opd ! (unit_lit !)) refl (tt, tt) $ returns ! (look_at ! 0 refl) $ free_all ! refl $
        suffices ! _ (ends_at 𝓛 (ended Z) (stays Z) said (bound p) vunit tt (tt, (tt, (tt, (tt, tt)))) (tt, (tt, (tt, (tt, tt))))) $
        nothing ! $ feq_i ! (List Val) (vunit ∷ []) (vunit ∷ []) refl $ nothing ! $ nothing ! $ fjoin ! $ nothing ! $ fjoin ! $ nothing ! $ fjoin ! $ nothing ! $ fjoin ! $ join ! $
        move ! (2 ∷ 3 ∷ []) $ join ! $ join ! $ done !)))))))

pub deallocate_spec : {M : Type 1} → stated.statement M
unfolding tables_of
deallocate_spec 𝓤 𝓛 𝓜 𝓡 wired B L g d d' met _ =
    let Z : Al = record { row = B; laws = L; g = g; d = d; drops = d' } in
    let 𝓣 : Tables 𝓤 𝓛.H = tables_of 𝓤 𝓛.H 𝓜 (tables 𝓤 𝓛.H 𝓜 𝓡 𝓡.env) in
    let Runs = WpFn 𝓤 𝓛.H 𝓣.C 𝓣.Λ (fn Z) in
    let gate = cited 𝓤 𝓛.H _ 𝓜 𝓡 𝓡.env gate_symbol.name (𝓡.env gate_symbol.name) refl (gate_met.met 𝓤 𝓛 𝓜 𝓡 (code.calls-test_fixtures::refusing_alloc::takes_back 𝓡.env wired)) in
    let goes = Goes-dropped 𝓛 2 (number Z) yes (λ κs x f. refl) in
    entered 𝓤 𝓛.H (triple_of 𝓛 (F.signature B) (F.spec B g d d' 𝓛 𝓜.mem 𝓡.returns)) 𝓣.C 𝓣.Λ (key.name (called Z)) (fn Z) (code.unfolded 𝓤 𝓛.H 𝓜 𝓡 wired (B, tt) d d')
    (walk_Meets 𝓛 (ended Z) (stays Z) (Goes-dropped 𝓛 2 (itself Z) yes (λ κs x f. refl), (Goes-dropped 𝓛 2 (piece Z) yes (λ κs x f. refl), (goes, (goes, tt)))) (said Z 𝓛 𝓜.mem 𝓡.returns 𝓣) Runs (WpFn-mono 𝓤 𝓛.H 𝓛.laws 𝓣 (fn Z))
    (walked 𝓛 (ended Z) (stays Z) (said Z 𝓛 𝓜.mem 𝓡.returns 𝓣) Runs (λ κs. (shr_vals, (rawptr_vals, (uint_vals w64, (uint_vals w64, tt))))) (λ κs. ((λ r vs s. s.0), (rawptr_Tells, (uint_Tells w64, (uint_Tells w64, tt)))))
    (λ κs qs bounds args τ are. walk Z 𝓛 𝓜.mem 𝓡.returns 𝓣 κs.0 κs.1.0 qs.0 qs.1.0 bounds.0 args.0 args.1.1.0 args.1.1.1.0 τ (met.deallocate d') gate are.1.1.0.1 are.1.1.1.0.1 args.1.0)))
