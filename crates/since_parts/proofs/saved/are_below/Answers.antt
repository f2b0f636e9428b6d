use Rattle.std.proofs.Common.{◌≡◌, ◌∙◌, ◌-◌, ◌∷◌, ◌++◌, ℕ, List, [], true, false, ap, drop, get_or, length, map, rules, sym, take}
use Rattle.jwalk_snapshot.specs.Text.{folder_of}
use Rattle.since_parts.specs.Saved.{dir_paths, is_dir_found, path_found, path_in}
use Rattle.since_parts.proofs.SavedFacts.{dirs_taken, no_dir, one_dir, paths_taken}
use Rattle.since_parts.proofs.saved.are_below.Goals as goal
use Rattle.since_parts.proofs.saved.are_below.Goals.{then-is_dir+in-len1-up+else-ne, else-is_dir}

pub loop-entry-preserved : goal.loop-entry-preserved
loop-entry-preserved c =
    let entry = c.entry-item.result in
    let left = c.loop-entry.left.now in
    let here : get_or c.args.entries.now c.loop-entry.entry-index entry ≡ entry = search rules in
    let paths = map path_in (map folder_of left) in
    dirs_taken (map path_in (map folder_of c.args.blocks.now)) paths (map path_in (map folder_of c.if-is_dir.left.now)) c.args.entries.now c.loop-entry.entry-index entry c.loop-entry-test.true here c.loop-entry.invariant
    (elim c.if-is_dir.branch [
      | then-is_dir+in-len1-up+else-ne w ↦
          let others = map path_in (map folder_of (take (length left - 1) (drop 1 left))) in
          let same : (get_or left 0 w.block-item.result).path.now ≡ path_found entry = search rules in
          let is : is_dir_found entry ≡ true = search rules in
          let behind : c.if-is_dir.left.now ≡ take (length left - 1) (drop 1 left) = search rules in
          paths_taken left w.block-item.result w.in-len1-up.len_at_least
          ∙ ap (λ (path : List ℕ). path ∷ others) same
          ∙ sym (ap (λ (l : List (List ℕ)). l ++ others) (one_dir entry is))
          ∙ ap (λ l. dir_paths (entry ∷ []) ++ map path_in (map folder_of l)) (sym behind)
      | else-is_dir w ↦
          let is : is_dir_found entry ≡ false = search rules in
          let same : c.if-is_dir.left.now ≡ left = search rules in
          sym (ap (λ (l : List (List ℕ)). l ++ paths) (no_dir entry is)) ∙ ap (λ l. dir_paths (entry ∷ []) ++ map path_in (map folder_of l)) (sym same)
    ])
