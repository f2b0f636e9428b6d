-- The walks of a search.
use Rattle.std.proofs.Common.{◌≡◌, ◌≤◌, ◌<◌, ◌⊎◌, ◌∙◌, ℕ, Bool, true, false, List, [], ◌∷◌, length, slice_index_or, Option, Result, Ok, Err, inl, inr, ap, arith, subst, sym}
use Rattle.std.specs.Prelude.{◌==◌, if◌then◌else◌, MatchBool}
use Rattle.std.specs.Borrow.{Bor}
use Rattle.std.specs.declared.sync.Arc.{Arc}
use Rattle.jwalk.specs.jwalk_model.Counted.{Worth}
use Rattle.jwalk.specs.jwalk_model.Entry.{Item}
use Rattle.jwalk.specs.jwalk_model.Paths.{dot}
use Rattle.jwalk_job.specs.declared.dir_entry.DirEntry.{DirEntry}
use Rattle.jwalk_job.specs.declared.error.Error.{Error}
use Rattle.jwalk_job.specs.Error.{depth_of, failure}
use Rattle.jwalk.specs.DirEntryIter.{NoneRefused}
use Rattle.jwalk.specs.WalkDir.{NoneBusy}
use Rattle.jwalk.specs.declared.crew.Crew.{Crew}
use Rattle.jwalk.specs.declared.walk_dir.WalkDirGeneric.{WalkDirGeneric}
use Rattle.program_parts.specs.Values.{texts_of}
use Rattle.seek_words.specs.declared.asked.Asked.{Asked}
use Rattle.seek_words.specs.Sought.{Sought}
use Rattle.seek_found.specs.Roots.{AreBelow}
use Rattle.seek_found.proofs.RootsFacts.{are_below, may_stop_sooner, one_root}
use Rattle.seek_found.proofs.WholeFacts.{AreDeep}
use Rattle.seek_search.specs.Goes.{Honours, IsHonouring, IsPlain, LeavesOut, Yielded, YieldedBelow, YieldedBy}
use Rattle.program_walks.specs.Crew.{CrewCallsOf}
use Rattle.seek_search.specs.Search.{roots_asked}
use Rattle.jwalk_ignore.specs.declared.callback.states.RulesState.{RulesState}

module _ {T C S P A R E : Type 0} (calls : CrewCallsOf T C S P A R E) {is : WalkDirGeneric C S P A (Crew T) R E → Type 0} {sought : Sought} where
  -- the answers of a walk with further facts
  pub yielded_so : {be : WalkDirGeneric C S P A (Crew T) R E → Type 0} {may_stop : Type 0} → ((walk : WalkDirGeneric C S P A (Crew T) R E) → is walk → be walk) → (answers : List (Item Worth Worth)) → Yielded calls is sought may_stop answers → Yielded calls be sought may_stop answers
  yielded_so more answers y = record {
    walk = y.walk;
    is_so = more y.walk y.is_so;
    it = y.it;
    starts = y.starts;
    begins = y.begins;
    yielded = y.yielded;
    called = y.called;
    counted = y.counted;
  }

  -- all answers, or those by then if the search stops
  yielded_or : {may_stop : Type 0} (answers : List (Item Worth Worth)) → Yielded calls is sought may_stop answers → Yielded calls is sought ⊥ answers ⊎ (may_stop × Yielded calls is sought may_stop answers)
  yielded_or answers y = elim y.called [
    | inl drains ↦ inl (record {
      walk = y.walk;
      is_so = y.is_so;
      it = y.it;
      starts = y.starts;
      begins = y.begins;
      yielded = y.yielded;
      called = inl drains;
      counted = y.counted;
    })
    | inr stopped ↦ inr (stopped.0, y)
  ]

  -- the same, if a search may stop for a weaker cause
  yielded_may : {may_stop other : Type 0} → (may_stop → other) → (answers : List (Item Worth Worth)) → Yielded calls is sought may_stop answers → Yielded calls is sought other answers
  yielded_may more answers y = record {
    walk = y.walk;
    is_so = y.is_so;
    it = y.it;
    starts = y.starts;
    begins = y.begins;
    yielded = y.yielded;
    called = elim y.called [ inl drains ↦ inl drains | inr stopped ↦ inr (more stopped.0, stopped.1) ];
    counted = y.counted;
  }

module _ {T C S B X A E G H F : Type 0} (plain : CrewCallsOf T G (Arc S B) LeavesOut A H F) (honouring : CrewCallsOf T C (Arc S B) (Honours X B) A RulesState E) (disk : S) (texts : X) (crew : Option (Arc (Crew T) A)) (lines : List ℕ) (asked : Asked) (sought : Sought) (may_stop : Type 0) (root : List ℕ) (answers : List (Item Worth Worth)) where
  abbrev Two : Type 0 → Bool → Type 0
  Two stop b = MatchBool b (Yielded plain (IsPlain disk crew lines asked root) sought stop answers) (Yielded honouring (IsHonouring disk texts crew lines asked root) sought stop answers)

  -- the answers below a root are those of one of two walks
  pub below_plain : asked.no_ignore ≡ true → Yielded plain (IsPlain disk crew lines asked root) sought may_stop answers → YieldedBy plain honouring disk texts crew lines asked sought may_stop root answers
  below_plain is y = subst (Two may_stop) (sym is) y

  pub below_honouring : asked.no_ignore ≡ false → Yielded honouring (IsHonouring disk texts crew lines asked root) sought may_stop answers → YieldedBy plain honouring disk texts crew lines asked sought may_stop root answers
  below_honouring is y = subst (Two may_stop) (sym is) y

  -- all answers, or those by then if the search stops
  by_or : YieldedBy plain honouring disk texts crew lines asked sought may_stop root answers → YieldedBy plain honouring disk texts crew lines asked sought ⊥ root answers ⊎ (may_stop × YieldedBy plain honouring disk texts crew lines asked sought may_stop root answers)
  by_or = elim asked.no_ignore as (λ b. Two may_stop b → Two ⊥ b ⊎ (may_stop × Two may_stop b)) [ true ↦ yielded_or plain answers | false ↦ yielded_or honouring answers ]

  -- the same, if a search may stop for a weaker cause
  by_may : {other : Type 0} → (may_stop → other) → YieldedBy plain honouring disk texts crew lines asked sought may_stop root answers → YieldedBy plain honouring disk texts crew lines asked sought other root answers
  by_may {other} more = elim asked.no_ignore as (λ b. Two may_stop b → Two other b) [ true ↦ yielded_may plain more answers | false ↦ yielded_may honouring more answers ]

module _ {T C S B X A E G H F : Type 0} (plain : CrewCallsOf T G (Arc S B) LeavesOut A H F) (honouring : CrewCallsOf T C (Arc S B) (Honours X B) A RulesState E) (disk : S) (texts : X) (is_crew : List ℕ → Option (Arc (Crew T) A) → Type 0) (lines : List ℕ) (asked : Asked) (sought : Sought) (may_stop : Type 0) (root : List ℕ) (answers : List (Item Worth Worth)) where
  -- all answers, or those by then if the search stops
  pub below_or : YieldedBelow plain honouring disk texts is_crew lines asked sought may_stop root answers → YieldedBelow plain honouring disk texts is_crew lines asked sought ⊥ root answers ⊎ (may_stop × YieldedBelow plain honouring disk texts is_crew lines asked sought may_stop root answers)
  below_or y = elim (by_or plain honouring disk texts y.reads lines asked sought may_stop root answers y.yielded) [
    | inl all ↦ inl (record { reads = y.reads; by = y.by; yielded = all })
    | inr stopped ↦ inr (stopped.0, y)
  ]

  -- the same, if a search may stop for a weaker cause
  pub below_may : {other : Type 0} → (may_stop → other) → YieldedBelow plain honouring disk texts is_crew lines asked sought may_stop root answers → YieldedBelow plain honouring disk texts is_crew lines asked sought other root answers
  below_may more y = record { reads = y.reads; by = y.by; yielded = by_may plain honouring disk texts y.reads lines asked sought may_stop root answers more y.yielded }

-- the answers below roots depend on the disk, the texts, what reads and what is looked for
pub same_below : {T C S B X A E G H F : Type 0} (plain : CrewCallsOf T G (Arc S B) LeavesOut A H F) (honouring : CrewCallsOf T C (Arc S B) (Honours X B) A RulesState E) (lines : List ℕ) (asked : Asked) (may_stop : Type 0) (roots : List (List ℕ)) {is_crew may_read : List ℕ → Option (Arc (Crew T) A) → Type 0} {disk disk' : S} {texts texts' : X} {sought sought' : Sought}
    → ((root : List ℕ) (reads : Option (Arc (Crew T) A)) → is_crew root reads → may_read root reads) → disk ≡ disk' → texts ≡ texts' → sought ≡ sought'
    → (answers : List (Item Worth Worth)) → AreBelow (YieldedBelow plain honouring disk texts is_crew lines asked sought) may_stop roots answers → AreBelow (YieldedBelow plain honouring disk' texts' may_read lines asked sought') may_stop roots answers
same_below {S} {X} plain honouring lines asked may_stop roots {is_crew} {may_read} {disk} {disk'} {texts} {texts'} {sought} {sought'} read over from same answers are =
    subst (λ (s : Sought). AreBelow (YieldedBelow plain honouring disk' texts' may_read lines asked s) may_stop roots answers) same
    (subst (λ (t : X). AreBelow (YieldedBelow plain honouring disk' t may_read lines asked sought) may_stop roots answers) from
    (subst (λ (d : S). AreBelow (YieldedBelow plain honouring d texts may_read lines asked sought) may_stop roots answers) over
    (are_below (YieldedBelow plain honouring disk texts is_crew lines asked sought) (YieldedBelow plain honouring disk texts may_read lines asked sought) may_stop
    (λ stop root xs y. record { reads = y.reads; by = read root y.reads y.by; yielded = y.yielded }) roots answers are)))

-- a search that stops may stop for a weaker cause
pub stops_sooner : {T C S B X A E G H F : Type 0} (plain : CrewCallsOf T G (Arc S B) LeavesOut A H F) (honouring : CrewCallsOf T C (Arc S B) (Honours X B) A RulesState E) (disk : S) (texts : X) (is_crew : List ℕ → Option (Arc (Crew T) A) → Type 0) (lines : List ℕ) (asked : Asked) (sought : Sought) (may_stop other : Type 0) → (may_stop → other) → (roots : List (List ℕ)) (answers : List (Item Worth Worth))
    → AreBelow (YieldedBelow plain honouring disk texts is_crew lines asked sought) may_stop roots answers → AreBelow (YieldedBelow plain honouring disk texts is_crew lines asked sought) other roots answers
stops_sooner plain honouring disk texts is_crew lines asked sought may_stop other more =
    may_stop_sooner (YieldedBelow plain honouring disk texts is_crew lines asked sought) may_stop other more (λ root answers. below_may plain honouring disk texts is_crew lines asked sought may_stop root answers more)

-- the roots that are named are those that are asked for
pub named_roots : (asked : Asked) (roots : List (Bor (List ℕ))) → (length asked.roots.items == 0) ≡ false → roots ≡ asked.roots.items → texts_of roots ≡ roots_asked asked
named_roots asked roots some are = ap texts_of are ∙ sym (ap (λ (b : Bool). if b then dot ∷ [] else texts_of asked.roots.items) some)

module _ {T C S B X A E G H F : Type 0} (plain : CrewCallsOf T G (Arc S B) LeavesOut A H F) (honouring : CrewCallsOf T C (Arc S B) (Honours X B) A RulesState E) (disk : S) (texts : X) (is_crew : List ℕ → Option (Arc (Crew T) A) → Type 0) (lines : List ℕ) (asked : Asked) (sought : Sought) (may_stop : Type 0) where
  -- the answers below the folder that the program runs in, if no root is named
  pub below_here : (length asked.roots.items == 0) ≡ true → (answers : List (Item Worth Worth)) → YieldedBelow plain honouring disk texts is_crew lines asked sought may_stop dot answers → AreBelow (YieldedBelow plain honouring disk texts is_crew lines asked sought) may_stop (roots_asked asked) answers
  below_here none answers y =
      subst (λ (b : Bool). AreBelow (YieldedBelow plain honouring disk texts is_crew lines asked sought) may_stop (if b then dot ∷ [] else texts_of asked.roots.items) answers) (sym none)
      (one_root (YieldedBelow plain honouring disk texts is_crew lines asked sought) may_stop dot answers (below_or plain honouring disk texts is_crew lines asked sought may_stop dot answers y))

  -- the answers below the roots that are named
  pub below_named : (roots : List (Bor (List ℕ))) → (length asked.roots.items == 0) ≡ false → roots ≡ asked.roots.items → (answers : List (Item Worth Worth)) → AreBelow (YieldedBelow plain honouring disk texts is_crew lines asked sought) may_stop (texts_of roots) answers
      → AreBelow (YieldedBelow plain honouring disk texts is_crew lines asked sought) may_stop (roots_asked asked) answers
  below_named roots some are answers y =
      subst (λ (b : Bool). AreBelow (YieldedBelow plain honouring disk texts is_crew lines asked sought) may_stop (if b then dot ∷ [] else texts_of asked.roots.items) answers) (sym some)
      (subst (λ (l : List (Bor (List ℕ))). AreBelow (YieldedBelow plain honouring disk texts is_crew lines asked sought) may_stop (texts_of l) answers) are y)

  -- the answers below a single root
  pub below_one : (roots : List (Bor (List ℕ))) (d : Bor (List ℕ)) → 1 ≤ length roots → length roots < 2 → (answers : List (Item Worth Worth)) → YieldedBelow plain honouring disk texts is_crew lines asked sought may_stop (slice_index_or roots 0 d).now answers
      → AreBelow (YieldedBelow plain honouring disk texts is_crew lines asked sought) may_stop (texts_of roots) answers
  below_one [] d some few answers y = absurd (omega (arith, some))
  below_one (root ∷ []) d some few answers y = one_root (YieldedBelow plain honouring disk texts is_crew lines asked sought) may_stop root.now answers (below_or plain honouring disk texts is_crew lines asked sought may_stop root.now answers y)
  below_one (root ∷ other ∷ roots) d some few answers y = absurd (omega (arith, few))

  -- the same roots, with other facts of them
  pub below_same : {roots roots' : List (List ℕ)} → roots ≡ roots' → (answers : List (Item Worth Worth)) → AreBelow (YieldedBelow plain honouring disk texts is_crew lines asked sought) may_stop roots answers → AreBelow (YieldedBelow plain honouring disk texts is_crew lines asked sought) may_stop roots' answers
  below_same are answers y = subst (λ (r : List (List ℕ)). AreBelow (YieldedBelow plain honouring disk texts is_crew lines asked sought) may_stop r answers) are y

-- errors that are deeper than a root say neither that memory ran out nor that the crew was busy
pub none_refused : {C A R E : Type 0} (xs : List (Result (DirEntry C A R E) (Error A))) → AreDeep xs → NoneRefused xs
none_refused [] deep = tt
none_refused (Ok e ∷ xs) deep = (λ is. is, none_refused xs deep)
none_refused (Err f ∷ xs) deep = (λ is. absurd (let none : depth_of (failure f) ≡ 0 = ap depth_of is in omega (arith, none, deep.0)), none_refused xs deep.1)

pub none_busy : {C A R E : Type 0} (xs : List (Result (DirEntry C A R E) (Error A))) → AreDeep xs → NoneBusy xs
none_busy [] deep = tt
none_busy (Ok e ∷ xs) deep = (λ is. is, none_busy xs deep)
none_busy (Err f ∷ xs) deep = (λ is. absurd (let none : depth_of (failure f) ≡ 0 = ap depth_of is in omega (arith, none, deep.0)), none_busy xs deep.1)
