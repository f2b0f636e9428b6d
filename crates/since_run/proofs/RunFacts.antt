-- The steps of a call.
use Rattle.std.proofs.Common.{◌≡◌, ◌∙◌, ◌≤◌, ℕ, Bool, true, false, List, Option, None, Some, Ok, Err, arith, inl, inr, string_bytes, subst, sym}
use Rattle.std.specs.Prelude.{◌==◌, ◌⊎◌, length, IfOk, OnErr, Result, if◌then◌else◌}
use Rattle.std.specs.Arc.{arc_value}
use Rattle.std.proofs.lemmas.Result.{IfOk-weaker}
use Rattle.std.specs.declared.alloc.Global.{Global}
use Rattle.std.specs.declared.string.String.{String}
use Rattle.std.specs.declared.vec.Vec.{Vec}
use Rattle.jwalk_snapshot.specs.Text.{Content}
use Rattle.program_walks.specs.Crew.{IsCrewOf, threads_in}
use Rattle.since_words.specs.Asks.{AskFor}
use Rattle.since_words.specs.declared.asked.Asked.{Asked}
use Rattle.since_parts.specs.Differences.{Difference}
use Rattle.since_parts.specs.declared.found.Found.{Found}
use Rattle.since_parts.specs.declared.tree.Tree.{Tree}
use Rattle.since_run.specs.Call.{IsCallOf}
use Rattle.since_run.specs.Compared.{ComparesAll, ComparesBytes, ComparesQuickly}
use Rattle.since_run.specs.Done.{Begins, Does, DoesAsked, EndsWith, Lists, SavesAsked, SavesRest, Tells}
use Rattle.since_run.specs.Run.{status_for, HasTextAsked, IsLoaded, ReplacesBy}
use Rattle.since_run.specs.Yielded.{Walks}
use Rattle.since_run.specs.declared.call.Call.{Call}
use Rattle.since_run.specs.declared.compare.Told.{Told}
use Rattle.since_run.specs.declared.run.Since.{Since}
use Rattle.since_run.specs.declared.store.Store as Store

-- a text that is saved, if one is to be
pub saves_asked : {K : Type 0} (replaces : K → List ℕ → List ℕ → K → Type 0) (asked : Asked) (tree : Tree) (found : Found) (text : Option (String Global)) (old new : K)
    → HasTextAsked asked tree found text → ReplacesBy replaces asked.file.now old text new → SavesAsked replaces asked tree found old new
saves_asked replaces asked tree found None old new has done = inl (has, done)
saves_asked replaces asked tree found (Some text) old new has done = inr (has.0, string_bytes text, has.1, done)

low_if : (b : Bool) → (if b then 0 else 1) ≤ 1
low_if true = omega arith
low_if false = omega arith

-- the status of differences is 0 or 1
pub status_low : (changes : List Difference) → status_for changes ≤ 1
status_low changes = low_if (length changes == 0)

module _ {K : Type 0} (replaces : K → List ℕ → List ℕ → K → Type 0) (asked : Asked) (told : Told) (low : told.status ≤ 1) (old new : K) (status : ℕ) where
  -- a call that told 0 or 1 ends with 0, 1 or 2
  pub ends_low : EndsWith replaces asked told old new status → status ≤ 2
  ends_low (inl (clean, is, saves)) = omega (arith, low, is)
  ends_low (inr (unclean, is, unsaved)) = omega (arith, is)

-- a call that is made of what the program runs on
pub is_call : {T Z X : Type 0} {since : Since T Z X} {asked : Asked} {call : Call T X} {threads : ℕ} → arc_value call.texts ≡ since.texts → threads ≡ threads_in since.cores asked.threads → IsCrewOf threads call.crew
    → call.start ≡ since.start → call.asked.now ≡ asked → call.screen ≡ since.screen → IsCallOf since asked call
is_call {call = call} reads many is_crew began asks shows = record {
  reads = reads;
  crew = subst (λ (n : ℕ). IsCrewOf n call.crew) many is_crew;
  began = began;
  asks = asks;
  shows = shows;
}

module _ {T Z X K : Type 0} (walks : Walks T Z X) (store : Store.Ghosts K) (disk : Z) (call : Call T X) (before after : Option (List ℕ)) (old new : K) where
  told_either : (snapshot : Content) (told : Told)
      → ((call.asked.now.quick ≡ false) × ComparesAll walks disk call snapshot before after told) ⊎ ((call.asked.now.quick ≡ true) × ComparesQuickly walks disk call snapshot before after told) → told.status ≤ 1
  told_either snapshot told (inl (all, it)) = subst (λ (n : ℕ). n ≤ 1) (sym it.writes.tells) (status_low it.writes.changes)
  told_either snapshot told (inr (quick, it)) = subst (λ (n : ℕ). n ≤ 1) (sym it.compares.writes.tells) (status_low it.compares.writes.changes)

  told_low : (bytes : List ℕ) (told : Told) → ComparesBytes walks disk call bytes before after told → told.status ≤ 1
  told_low bytes told it = told_either it.snapshot told it.either

  zero_low : (n : ℕ) → n ≡ 0 → n ≤ 1
  zero_low n is = omega (arith, is)

  -- what is done ends with 0, 1 or 2
  does_low : (status : ℕ) → Does walks store disk call before after old new status → status ≤ 2
  does_low status (inl it) = ends_low store.Replaces call.asked.now it.begins.told (zero_low it.begins.told.status it.begins.none) old new status it.begins.ends
  does_low status (inr (inl it)) = omega (arith, it.lists.none)
  does_low status (inr (inr it)) = ends_low store.Replaces call.asked.now it.told (told_low it.bytes it.told it.compares) old new status it.ends

module _ {T Z X K : Type 0} (walks : Walks T Z X) (store : Store.Ghosts K) (since : Since T Z X) (asked : Asked) (before after : Option (List ℕ)) (old new : K) where
  -- what a call did that ended with this status
  abbrev pub Did : ℕ → Type 0
  Did = Tells walks store since asked before after old new

  -- the status of a call is 0, 1 or 2
  pub run_low : {Y : Type 0} (ended : Result ℕ Y) (status : ℕ) → IfOk ended Did → IfOk ended (λ n. status ≡ n) → OnErr ended (status ≡ 2) → status ≤ 2
  run_low (Ok n) status did same failed = subst (λ (k : ℕ). k ≤ 2) (sym same) (does_low walks store since.disk did.call before after old new n did.does)
  run_low (Err e) status did same failed = omega (arith, failed)

  -- it did what is asked for, or ended early
  pub run_ends : {Y : Type 0} (ended : Result ℕ Y) (words : List (List ℕ)) (status : ℕ) (IsTold : Type 0) → IfOk ended Did → AskFor words asked → IfOk ended (λ n. status ≡ n) → OnErr ended (status ≡ 2) → OnErr ended (new ≡ old) → OnErr ended IsTold
      → DoesAsked walks store since words before after old new status ⊎ ((status ≡ 2) × (new ≡ old) × IsTold)
  run_ends (Ok n) words status IsTold did asks same failed kept told = inl (asked, asks, subst Did (sym same) did)
  run_ends (Err e) words status IsTold did asks same failed kept told = inr (failed, kept, told)

  -- a first snapshot that is saved where there is no file
  pub tells_made : {Y : Type 0} (ended : Result ℕ Y) (call : Call T X) (found : Option (Vec ℕ Global)) → IfOk ended (Begins walks store since.disk call old new)
      → IsCallOf since asked call → IsLoaded walks.texts call found → found ≡ None → after ≡ before → IfOk ended Did
  tells_made ended call found begins is_one loaded none silent =
      let missing = subst (IsLoaded walks.texts call) none loaded in
      IfOk-weaker ended _ _ (λ status begins. record {
        call = call;
        is_one = is_one;
        does = inl (record { missing = missing.1; made = missing.0; begins = begins; silent = silent });
      }) begins

  -- a snapshot in a file that is listed
  pub tells_listed : {Y : Type 0} (ended : Result ℕ Y) (call : Call T X) (found : Option (Vec ℕ Global)) (bytes : Vec ℕ Global) → IfOk ended (Lists call bytes.items before after)
      → IsCallOf since asked call → IsLoaded walks.texts call found → found ≡ Some bytes → call.asked.now.lists ≡ true → new ≡ old → IfOk ended Did
  tells_listed ended call found bytes lists is_one loaded some listed unsaved =
      IfOk-weaker ended _ _ (λ status lists. record {
        call = call;
        is_one = is_one;
        does = inr (inl (record {
          listed = listed;
          bytes = bytes.items;
          read = subst (IsLoaded walks.texts call) some loaded;
          lists = lists;
          unsaved = unsaved;
        }));
      }) lists

  -- a snapshot in a file that is compared
  pub tells_compared : {Y : Type 0} (ended : Result ℕ Y) (call : Call T X) (found : Option (Vec ℕ Global)) (bytes : Vec ℕ Global) (told : Told) → ComparesBytes walks since.disk call bytes.items before after told
      → IsCallOf since asked call → IsLoaded walks.texts call found → found ≡ Some bytes → call.asked.now.lists ≡ false
      → IfOk ended (EndsWith store.Replaces call.asked.now told old new) → IfOk ended Did
  tells_compared ended call found bytes told compares is_one loaded some compared =
      IfOk-weaker ended _ _ (λ status ends. record {
        call = call;
        is_one = is_one;
        does = inr (inr (record {
          compared = compared;
          bytes = bytes.items;
          read = subst (IsLoaded walks.texts call) some loaded;
          told = told;
          compares = compares;
          ends = ends;
        }));
      })
