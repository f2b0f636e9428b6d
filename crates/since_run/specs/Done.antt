-- What a call does.
use Rattle.std.specs.Prelude.{◌≡◌, ◌⊎◌, ℕ, true, false, List, Option, None, Some, Ok, Err, string_bytes}
use Rattle.std.specs.Io.KnownBytes.{Appends}
use Rattle.std.specs.declared.io.ErrorKind.TheVariants.{NotFound}
use Rattle.jwalk.specs.jwalk_model.Paths.{dot}
use Rattle.jwalk_snapshot.specs.Text.{Content, IsSnapshot, text_of}
use Rattle.since_words.specs.Asks.{AskFor, AskForText}
use Rattle.since_words.specs.declared.asked.Asked.{Asked}
use Rattle.since_parts.specs.Choice.{words_of}
use Rattle.since_parts.specs.Saved.{IsTextOf}
use Rattle.since_parts.specs.declared.found.Found.{Found}
use Rattle.since_parts.specs.declared.tree.Tree.{Tree}
use Rattle.since_run.specs.Call.{IsCallOf}
use Rattle.since_run.specs.Run.{root_asked, rows_asked, words_in, FileHolds}
use Rattle.since_run.specs.Compared.{ComparesBytes, IsTreeAt}
use Rattle.since_run.specs.Finds.{FindsAll}
use Rattle.since_run.specs.Yielded.{Walks}
use Rattle.since_run.specs.declared.call.Call.{Call}
use Rattle.since_run.specs.declared.compare.Told.{Told}
use Rattle.since_run.specs.declared.run.Since.{Since}
use Rattle.since_run.specs.declared.store.Store as Store

-- The text of a snapshot of what is found is saved, if that is asked for, and else nothing is.
abbrev pub SavesAsked : {K : Type 0} → (K → List ℕ → List ℕ → K → Type 0) → Asked → Tree → Found → K → K → Type 0
SavesAsked replaces asked tree found old new =
    ((asked.save ≡ false) × (new ≡ old)) ⊎ ((asked.save ≡ true) × (text : List ℕ) × IsTextOf (string_bytes tree.absolute) tree.choice found text × replaces old asked.file.now text new)

-- Bytes are the text of a snapshot, and a row for each entry that it holds is written.
pub record Lists {T X : Type 0} (call : Call T X) (bytes : List ℕ) (before after : Option (List ℕ)) (status : ℕ) : Type 0 where
  pub snapshot : Content
  pub is_one : IsSnapshot snapshot
  pub has : bytes ≡ text_of snapshot
  pub written : Appends before after (rows_asked call snapshot)
  pub none : status ≡ 0

-- Not all could be read: something else than what was found is saved in its place, if that is asked for, or nothing is.
abbrev pub SavesRest : {K : Type 0} → (K → List ℕ → List ℕ → K → Type 0) → Asked → Told → K → K → Type 0
SavesRest replaces asked told old new = ((rest : Found) × (told.rest ≡ Some rest) × SavesAsked replaces asked told.tree rest old new) ⊎ ((told.rest ≡ None) × (new ≡ old))

-- A call ends with the status that is told, and what was found is saved if that is asked for. Or not all could be read: then it ends with 2.
abbrev pub EndsWith : {K : Type 0} → (K → List ℕ → List ℕ → K → Type 0) → Asked → Told → K → K → ℕ → Type 0
EndsWith replaces asked told old new status =
    ((told.found.clean ≡ true) × (status ≡ told.status) × SavesAsked replaces asked told.tree told.found old new) ⊎ ((told.found.clean ≡ false) × (status ≡ 2) × SavesRest replaces asked told old new)

module _ {T Z X K : Type 0} (walks : Walks T Z X) (store : Store.Ghosts K) (disk : Z) (call : Call T X) where
  -- A first snapshot is saved.
  pub record Begins (old new : K) (status : ℕ) : Type 0 where
    pub told : Told
    pub none : told.status ≡ 0
    pub tree_is : IsTreeAt walks.texts call (root_asked call.asked.now dot) told.tree
    pub chosen : words_of told.tree.choice ≡ words_in call.asked.now
    pub finds : FindsAll walks disk call told.tree told.found
    pub ends : EndsWith store.Replaces call.asked.now told old new status

  -- The file has a snapshot, whose entries are listed. Nothing is saved.
  pub record ListsFile (before after : Option (List ℕ)) (old new : K) (status : ℕ) : Type 0 where
    pub listed : call.asked.now.lists ≡ true
    pub bytes : List ℕ
    pub read : FileHolds walks.texts call (Ok bytes)
    pub lists : Lists call bytes before after status
    pub unsaved : new ≡ old

  -- The file has a snapshot, and it is compared with what is found, which is saved if that is asked for.
  pub record ComparesFile (before after : Option (List ℕ)) (old new : K) (status : ℕ) : Type 0 where
    pub compared : call.asked.now.lists ≡ false
    pub bytes : List ℕ
    pub read : FileHolds walks.texts call (Ok bytes)
    pub told : Told
    pub compares : ComparesBytes walks disk call bytes before after told
    pub ends : EndsWith store.Replaces call.asked.now told old new status

  -- There is no such file, and it is made: nothing is written.
  pub record MakesFile (before after : Option (List ℕ)) (old new : K) (status : ℕ) : Type 0 where
    pub missing : FileHolds walks.texts call (Err NotFound)
    pub made : call.asked.now.save ≡ true
    pub begins : Begins old new status
    pub silent : after ≡ before

  -- One of these three is done.
  abbrev pub Does : Option (List ℕ) → Option (List ℕ) → K → K → ℕ → Type 0
  Does before after old new status = MakesFile before after old new status ⊎ (ListsFile before after old new status ⊎ ComparesFile before after old new status)

module _ {T Z X K : Type 0} (walks : Walks T Z X) (store : Store.Ghosts K) (since : Since T Z X) where
  -- What is asked for is done.
  pub record Tells (asked : Asked) (before after : Option (List ℕ)) (old new : K) (status : ℕ) : Type 0 where
    pub call : Call T X
    pub is_one : IsCallOf since asked call
    pub does : Does walks store since.disk call before after old new status

  -- The words ask for something, and that is done.
  abbrev pub DoesAsked : List (List ℕ) → Option (List ℕ) → Option (List ℕ) → K → K → ℕ → Type 0
  DoesAsked words before after old new status = (asked : Asked) × AskFor words asked × Tells asked before after old new status

  -- A call was asked for a text, or did what its words ask for; or it ended early with 2, saved nothing, and why was told last.
  abbrev pub Ends : List (List ℕ) → Option (List ℕ) → Option (List ℕ) → K → K → ℕ → Type 0 → Type 0
  Ends words before after old new status is_told =
      (AskForText words × (status ≡ 0) × (new ≡ old)) ⊎ (DoesAsked words before after old new status ⊎ ((status ≡ 2) × (new ≡ old) × is_told))
