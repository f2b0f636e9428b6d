-- A refused request is an `Err`, and any other is the inner allocator's. Assumes `Logic`.
use Rattle.std.proofs.Common.{◌≡◌, ℕ, ◌^◌, ◌<◌, Bool, true, false, List, [], ◌∷◌, Ok, Err, refl, w64, Bor}
use seplogic.Ra.Ura.{Ura}
use mir.Syntax.{Ty, Args, Fn, a_type, dnil, dcons}
use mir.Val.{Val, vbool, vint, vptr}
use mir.MapTy.{inst_fn}
use base.Logic.{SProp, ent, id⊢}
use base.Fml.{Lft, Share, ftrue, flft}
use prog.Memory.{Memory, size, align, capped}
use prog.Routine.{Routine}
use prog.Wp.{WpFn, Tables}
use types.Logic.{Logic}
use contract.BorrowLft.{◌⊑◌, ⊑_trans}
use contract.Monad.{Fun, fact}
use contract.Running.{tables, tables_of}
use sound.WpLaws.{fm_of, WpFn-mono}
use types.Part.{agg}
use types.Run.{stop, fld, lit, addr, no_more, and_then, first, branches, skips, exec, returns, returns_within, enter}
use denote.Exit.{yes}
use denote.RattleType.{owns}
use denote.Ref.{shr_vals}
use denote.Opens.{unhide}
use denote.Param.{bounded, param}
use denote.Plain.{uint_vals, uint_Tells}
use denote.Signature.{Slot, plain, types_at}
use denote.Steps.{heard, nothing}
use denote.Triple.Clauses.{Ended, Clauses}
use denote.Triple.Spec.{triple_of}
use denote.Triple.Statement.{Triple}
use denote.Triple.Table.{entered, cited}
use denote.Triple.Walked.{Stays, stay_dropped, walk_of, ends_at, walked, Goes-dropped, walk_Meets}
use types.Kit.{⋆, ‵, raw, ◌⊛◌, some, later, given, learn, pick, at_ret, ◌$◌, ◌∵◌, !, qed, by, move, keep, use0, use1, use2, split, join, fsplit, fjoin, suffices, await, done}
use types.ByLocal.{alloc_all, pass_all, free_all, look_at, get, through, sets, lands_as, env}
use denote.RawPtr.{block_ptr}
use denote.Builtin.{usize, RefOf}
use denote.Triple.Call.{calls_at}
use Rattle.std.proofs.alloc.Calls.{Al, seen, token, got, Answer, answer_val, Answer-typed, Answer-Ok, Answer-err, takes_key, Takes, at_takes, Answered, Takes-goes, Takes-gives, answers}
use Rattle.std.proofs.VecSteps.Shapes.{after}
use Rattle.test_fixtures.proofs.Asked.{inner_at, gate_at, Refuses, of_gate, asks, tells}
use Rattle.test_fixtures.proofs.refusing_alloc.refuses.Symbol as gate_symbol
use Rattle.test_fixtures.proofs.refusing_alloc.refuses.Met as gate_met
use Rattle.test_fixtures.specs.contracts.refusing_alloc.Refusing as S
use Rattle.test_fixtures.specs.contracts.refusing_alloc.RefusingAllocator.allocate as F
use Rattle.test_fixtures.specs.contracts.refusing_alloc.RefusingAllocator.allocate.Key as key
use Rattle.test_fixtures.proofs.refusing_alloc.RefusingAllocator.allocate.Statement as stated
use Rattle.test_fixtures.proofs.refusing_alloc.RefusingAllocator.allocate.Code as code

module _ (Z : Al) where
  abbrev called : Args
  called = bounded (a_type ∷ []) (Z.row, tt) (dcons Z.d (dcons Z.drops dnil))

  abbrev fn : Fn
  fn = inst_fn called code.function

  abbrev itself : Slot 2
  itself = RefOf (0 ∷ []) tt (plain (λ _. S.the_row (param 0 Z.row))) (λ _. tt)

  abbrev number : Slot 2
  number = plain (λ _. usize)

  abbrev ended : Ended
  ended = F.ended Z.row Z.g Z.d Z.drops

  abbrev stays : Stays ended.signature.params ended.kept
  stays = (stay_dropped itself yes, (stay_dropped number yes, (stay_dropped number yes, tt)))

module _ (Z : Al) {M : Type 1} {𝓤 : Ura M} (𝓛 : Logic 𝓤) (at_mem : Memory → SProp 𝓤) (run : Routine → Fun 𝓤) (𝓣 : Tables 𝓤 𝓛.H) where
  open 𝓛 use {H}

  abbrev said : Clauses 𝓤 (ended Z)
  said = F.clauses Z.row Z.g Z.d Z.drops 𝓛 at_mem run

  module _ (κ ρ : Lft) (q s : Share) (out : κ ⊑ ρ) (me : Bor (S.the_row Z.row).Denot) (n a : ℕ) (τ : Ty) where
    abbrev bound : (walk_of 𝓛 (ended Z) (stays Z) said).Ghost
    bound = (((κ, (ρ, tt)), (q, (s, tt)), (out, tt), (me, (n, (a, tt))), (shr_vals me, (vint w64 n ∷ [], (vint w64 a ∷ [], tt)))), τ)

    abbrev Post : Val → SProp 𝓤
    Post = (walk_of 𝓛 (ended Z) (stays Z) said).post bound

    abbrev passed : List Val
    passed = vptr me.ref_ptr.0 me.ref_ptr.1 ∷ vint w64 n ∷ vint w64 a ∷ []

    abbrev Asks : Type 0
    Asks = (capped (size τ) ≡ n) × (capped (align τ) ≡ a)

    -- the end, with a block or with none
    with_block : (b o : ℕ) → ent 𝓤 (⋆ 𝓛 (‵ (got (token Z me.now.inner) τ true b o) ∷ ‵ (flft κ q) ∷ (‵ (flft ρ s) ⊛ ‵ ftrue) ∷ [])) (Post (answer_val true b o))
    with_block b o =
        qed 𝓛 (‵ (got (token Z me.now.inner) τ true b o) ∷ ‵ (flft κ q) ∷ (‵ (flft ρ s) ⊛ ‵ ftrue) ∷ []) ∵
        suffices ! _ (ends_at 𝓛 (ended Z) (stays Z) said bound (answer_val true b o) (Ok (block_ptr b o)) (tt, (tt, (tt, tt))) (tt, (tt, (tt, tt)))) $
        use0 𝓛 (‵ (Answer.own_val (Ok (block_ptr b o)) (answer_val true b o ∷ []))) (Answer-Ok 𝓛 b o) $
        nothing ! $ nothing ! $ fjoin ! $ nothing ! $ fjoin ! $ nothing ! $ fjoin ! $ join ! $ move ! (2 ∷ 3 ∷ []) $ join ! $ join ! $ done !

    with_none : ent 𝓤 (⋆ 𝓛 (‵ ftrue ∷ ‵ (flft κ q) ∷ (‵ (flft ρ s) ⊛ ‵ ftrue) ∷ [])) (Post (answer_val false 0 0))
    with_none =
        qed 𝓛 (‵ ftrue ∷ ‵ (flft κ q) ∷ (‵ (flft ρ s) ⊛ ‵ ftrue) ∷ []) ∵
        suffices ! _ (ends_at 𝓛 (ended Z) (stays Z) said bound (answer_val false 0 0) (Err (record {})) (tt, (tt, (tt, tt))) (tt, (tt, (tt, tt)))) $
        use0 𝓛 (‵ (Answer.own_val (Err (record {})) (answer_val false 0 0 ∷ []))) (Answer-err 𝓛) $
        nothing ! $ nothing ! $ fjoin ! $ nothing ! $ fjoin ! $ nothing ! $ fjoin ! $ join ! $ move ! (2 ∷ 3 ∷ []) $ join ! $ join ! $ done !

    walk : Triple 𝓤 (𝓣.C (takes_key Z)) (Takes Z 𝓛 at_mem run) → Triple 𝓤 (𝓣.C gate_symbol.name) (Refuses 𝓛 at_mem run) → n < 2 ^ 64 → a < 2 ^ 64
        → ent 𝓤 ((walk_of 𝓛 (ended Z) (stays Z) said).pre bound) (WpFn 𝓤 H 𝓣.C 𝓣.Λ (fn Z) passed Post)
    walk takes gate small slim =
        let h = me.now.inner in
        let inner = inner_at Z me.ref_ptr in
        let place = gate_at Z me.ref_ptr in
        let g = me.now.gate in
        let y = at_takes Z 𝓛 at_mem run κ q inner h n a τ in
        qed 𝓛 (((‵ (flft κ q) ⊛ ‵ (flft ρ s) ⊛ ‵ ftrue) ⊛ ‵ (owns (types_at (ended Z).signature.params bound.0.0) bound.0.3 bound.0.4)) ∷ (raw (fact 𝓤 (ρ ⊑ Z.row.lives)) ⊛ raw (fact 𝓤 Asks)) ∷ []) ∵
        move ! (1 ∷ []) $ split ! $ heard ! (ρ ⊑ Z.row.lives) (λ long. heard ! Asks (λ asked.
        split ! $ split ! $ move ! (2 ∷ []) $ fsplit ! $ fsplit ! $ move ! (1 ∷ []) $ unhide ! $ fsplit ! $ fsplit ! $
        use1 𝓛 (‵ (seen Z κ inner h)) (id⊢ 𝓤 _) $ move ! (1 ∷ []) $ fsplit ! $ keep ! (0 ∷ 6 ∷ 2 ∷ 7 ∷ []) $
        enter ! 𝓣.C 𝓣.Λ (fn Z) passed Post $ alloc_all ! (λ l. pass_all ! refl ((tt, tt), ((tt, record { fits = small }), ((tt, record { fits = slim }), tt))) $
        -- [the gate; the token of κ; the inner allocator; the other tokens]
        sets ! (addr ! (through ! refl (fld ! refl (stop !)))) refl (tt, tt) $
        use2 𝓛 (raw ((Refuses 𝓛 at_mem run).pre (of_gate 𝓛 at_mem run κ q place g))) (asks 𝓛 at_mem run κ q place g) $
        calls_at ! (fm_of 𝓤 H 𝓛.laws 𝓣) (Refuses 𝓛 at_mem run) gate (of_gate 𝓛 at_mem run κ q place g) (and_then ! (get ! refl) (no_more !)) (λ u.
        use1 𝓛 (later (some (λ (t : Bool). given (u ≡ vbool t) (‵ (flft κ q))))) (tells 𝓛 at_mem run κ q place g u) $ await ! tt $ pick ! (λ t. learn ! (λ is.
        lands_as ! is refl (tt, tt) $
        -- [the token of κ; the inner allocator; the other tokens]
        first ! $ branches ! (get ! refl)
        (λ _. sets ! (agg ! (no_more !)) refl (tt, tt) $ sets ! (agg ! (and_then ! (lit ! tt) (and_then ! (get ! refl) (no_more !)))) refl (Answer-typed false 0 0) $
        returns_within ! Post refl (look_at ! 0 refl) $ free_all ! refl $ keep ! (0 ∷ 2 ∷ []) $ nothing ! $ by ! with_none)
        (λ _. skips ! $ exec ! 𝓣.C 𝓣.Λ (env (fn Z).locals l) (after 3 (fn Z).body) (at_ret _ Post) $ move ! (1 ∷ []) $
        sets ! (addr ! (through ! refl (fld ! refl (stop !)))) refl (tt, tt) $
        use2 𝓛 (raw ((Takes Z 𝓛 at_mem run).pre y)) (Takes-goes Z 𝓛 at_mem run κ q inner h (⊑_trans κ ρ Z.row.lives out long) n a τ asked.0 asked.1 small slim) $
        calls_at ! (fm_of 𝓤 H 𝓛.laws 𝓣) (Takes Z 𝓛 at_mem run) takes y (and_then ! (get ! refl) (and_then ! (get ! refl) (and_then ! (get ! refl) (no_more !)))) (λ v.
        use1 𝓛 (later (raw (Answered Z 𝓛 at_mem run h τ v) ⊛ ‵ (flft κ q))) (Takes-gives Z 𝓛 at_mem run κ q inner h n a τ v) $ await ! tt $ split ! $
        answers Z ! at_mem run h τ v
        (λ b o e. lands_as ! e refl (Answer-typed true b o) $ returns ! (look_at ! 0 refl) $ free_all ! refl $ fjoin ! $ by ! (with_block b o))
        (λ e. nothing ! $ lands_as ! e refl (Answer-typed false 0 0) $ returns ! (look_at ! 0 refl) $ free_all ! refl $ by ! with_none)))))))))

pub allocate_spec : {M : Type 1} → stated.statement M
unfolding tables_of
allocate_spec 𝓤 𝓛 𝓜 𝓡 wired B L g d d' met _ =
    let Z : Al = record { row = B; laws = L; g = g; d = d; drops = d' } in
    let 𝓣 : Tables 𝓤 𝓛.H = tables_of 𝓤 𝓛.H 𝓜 (tables 𝓤 𝓛.H 𝓜 𝓡 𝓡.env) in
    let Runs = WpFn 𝓤 𝓛.H 𝓣.C 𝓣.Λ (fn Z) in
    let gate = cited 𝓤 𝓛.H _ 𝓜 𝓡 𝓡.env gate_symbol.name (𝓡.env gate_symbol.name) refl (gate_met.met 𝓤 𝓛 𝓜 𝓡 (code.calls-test_fixtures::refusing_alloc::refuses 𝓡.env wired)) in
    let goes = Goes-dropped 𝓛 2 (number Z) yes (λ κs x f. refl) in
    entered 𝓤 𝓛.H (triple_of 𝓛 (F.signature B) (F.spec B g d d' 𝓛 𝓜.mem 𝓡.returns)) 𝓣.C 𝓣.Λ (key.name (called Z)) (fn Z) (code.unfolded 𝓤 𝓛.H 𝓜 𝓡 wired (B, tt) d d')
    (walk_Meets 𝓛 (ended Z) (stays Z) (Goes-dropped 𝓛 2 (itself Z) yes (λ κs x f. refl), (goes, (goes, tt))) (said Z 𝓛 𝓜.mem 𝓡.returns 𝓣) Runs (WpFn-mono 𝓤 𝓛.H 𝓛.laws 𝓣 (fn Z))
    (walked 𝓛 (ended Z) (stays Z) (said Z 𝓛 𝓜.mem 𝓡.returns 𝓣) Runs (λ κs. (shr_vals, (uint_vals w64, (uint_vals w64, tt)))) (λ κs. ((λ r vs s. s.0), (uint_Tells w64, (uint_Tells w64, tt))))
    (λ κs qs bounds args τ are. walk Z 𝓛 𝓜.mem 𝓡.returns 𝓣 κs.0 κs.1.0 qs.0 qs.1.0 bounds.0 args.0 args.1.0 args.1.1.0 τ (met.allocate d') gate are.1.0.1 are.1.1.0.1)))
