-- Roots that are counted one after another.
use Rattle.std.proofs.Common.{◌≡◌, ◌∙◌, ◌⊎◌, ◌<◌, ◌≤◌, ℕ, zero, suc, Bool, true, false, ◌&&◌, List, [], ◌∷◌, ◌++◌, append-nil, append_assoc, length, slice_index_or, Option, Result, Ok, Err, inl, inr, refl, sym, ap, ap₂, arith, subst}
use Rattle.std.specs.Prelude.{IfOk}
use Rattle.std.specs.Borrow.{Bor}
use Rattle.std.specs.List.{list_all}
use Rattle.std.proofs.lemmas.List.{map-append}
use Rattle.jwalk.specs.jwalk_model.Counted.{Worth}
use Rattle.jwalk.specs.jwalk_model.declared.metadata.Identity.{Identity}
use Rattle.jwalk.specs.jwalk_model.Entry.{Item}
use Rattle.jwalk_subtotals.specs.Counted.{HaveSame, files_after, is_among}
use Rattle.jwalk_subtotals.specs.Files.{files_of}
use Rattle.jwalk_subtotals.specs.Subtotals.{Yielded, listed_all, subtotals_beside}
use Rattle.jwalk_subtotals.specs.declared.options.SubtotalOptions.{SubtotalOptions}
use Rattle.jwalk_subtotals.proofs.ComingFacts.{after_same, weighed_same}
use Rattle.program_parts.specs.Values.{texts_of}
use Rattle.tally_words.specs.declared.asked.Asked.{Asked}
use Rattle.tally_run.specs.Counting.{is_clean}
use Rattle.tally_run.specs.Results.{Row, Takes, rows_of}
use Rattle.tally_run.specs.Roots.{AreSuch, CountsMany, CountsRoot, CountsRoots, IsLeftOut, KeepsFirst, LeavesOut, all_rows, all_subtotals, files_behind}
use Rattle.tally_run.specs.Shown.{shown_asked}
use Rattle.tally_run.specs.Walks.{CountsBelow, subtotals_asked}
use Rattle.tally_run.specs.declared.counting.Counted.{Counted}
use Rattle.tally_run.specs.declared.results.Results.{Results}
use Rattle.tally_run.proofs.CountingFacts.{all_seam}
use Rattle.tally_run.proofs.ResultFacts.{takes_none, takes_then}

module _ {X : Type 0} where
  -- some of a list are left out, and some of another
  leaves_then : (xs left ys more : List X) → LeavesOut xs left → LeavesOut ys more → LeavesOut (xs ++ ys) (left ++ more)
  leaves_then [] left ys more is rest = subst (λ (l : List X). LeavesOut ys (l ++ more)) (sym is) rest
  leaves_then (x ∷ xs) left ys more (inl (kept, is, out)) rest = inl (kept ++ more, ap (λ (l : List X). l ++ more) is, leaves_then xs kept ys more out rest)
  leaves_then (x ∷ xs) left ys more (inr out) rest = inr (leaves_then xs left ys more out rest)

  -- the first of which is kept
  keeps_then : (xs left ys more : List X) → 0 < length xs → KeepsFirst xs left → LeavesOut ys more → KeepsFirst (xs ++ ys) (left ++ more)
  keeps_then [] left ys more some is rest = absurd (omega (arith, some))
  keeps_then (x ∷ xs) left ys more some (kept, is, out) rest = (kept ++ more, ap (λ (l : List X). l ++ more) is, leaves_then xs kept ys more out rest)

module _ (are : List ℕ → List (Item Worth Worth) → Type 0) where
  -- there is a list of answers for each root
  such_each : (roots : List (List ℕ)) (ls : List (List (Item Worth Worth))) → AreSuch are roots ls → length ls ≡ length roots
  such_each [] [] such = refl
  such_each [] (l ∷ ls) such = absurd such
  such_each (root ∷ roots) [] such = absurd such
  such_each (root ∷ roots) (l ∷ ls) such = let rest = such_each roots ls such.1 in omega (arith, rest)

  -- lists of answers below roots, and then below others
  such_then : (roots : List (List ℕ)) (ls : List (List (Item Worth Worth))) (more : List (List ℕ)) (ms : List (List (Item Worth Worth))) → AreSuch are roots ls → AreSuch are more ms → AreSuch are (roots ++ more) (ls ++ ms)
  such_then [] [] more ms such rest = rest
  such_then [] (l ∷ ls) more ms such rest = absurd such
  such_then (root ∷ roots) [] more ms such rest = absurd such
  such_then (root ∷ roots) (l ∷ ls) more ms such rest = (such.0, such_then roots ls more ms such.1 rest)

module _ {R E : Type 0} (o : SubtotalOptions) where
  -- what is counted of lists of answers, and then of others
  files_then : (known : List Identity) (ls ms : List (List (Item R E))) → files_behind o known (ls ++ ms) ≡ files_behind o (files_behind o known ls) ms
  files_then known [] ms = refl
  files_then known (l ∷ ls) ms = files_then (files_after o known l) ls ms

  subtotals_then : (known : List Identity) (ls ms : List (List (Item R E))) → all_subtotals o known (ls ++ ms) ≡ all_subtotals o known ls ++ all_subtotals o (files_behind o known ls) ms
  subtotals_then known [] ms = refl
  subtotals_then known (l ∷ ls) ms =
      ap (λ (ys : List (Yielded R E)). subtotals_beside o known l ++ ys) (subtotals_then (files_after o known l) ls ms)
      ∙ sym (append_assoc (subtotals_beside o known l) (all_subtotals o (files_after o known l) ls) (all_subtotals o (files_behind o (files_after o known l) ls) ms))

  -- it depends on which files are known alone
  files_alike : (files known : List Identity) → HaveSame files known → (ls : List (List (Item R E))) → HaveSame (files_behind o files ls) (files_behind o known ls)
  files_alike files known same [] = same
  files_alike files known same (l ∷ ls) = files_alike (files_after o files l) (files_after o known l) (after_same o files known same l) ls

  subtotals_alike : (files known : List Identity) → HaveSame files known → (ls : List (List (Item R E))) → all_subtotals o files ls ≡ all_subtotals o known ls
  subtotals_alike files known same [] = refl
  subtotals_alike files known same (l ∷ ls) =
      ap₂ (λ (a b : List (Yielded R E)). a ++ b) (ap (listed_all o) (weighed_same o files known same l)) (subtotals_alike (files_after o files l) (files_after o known l) (after_same o files known same l) ls)

module _ (asked : Asked) where
  -- the results of roots with their answers, and then of others
  rows_then : (known : List Identity) (roots : List (List ℕ)) (ls : List (List (Item Worth Worth))) (more : List (List ℕ)) (ms : List (List (Item Worth Worth))) → length ls ≡ length roots
      → all_rows asked known (roots ++ more) (ls ++ ms) ≡ all_rows asked known roots ls ++ all_rows asked (files_behind (subtotals_asked asked) known ls) more ms
  rows_then known [] [] more ms is = refl
  rows_then known [] (l ∷ ls) more ms is = absurd (omega (arith, is))
  rows_then known (root ∷ roots) [] more ms is = absurd (omega (arith, is))
  rows_then known (root ∷ roots) (l ∷ ls) more ms is =
      let o = subtotals_asked asked in
      let here = rows_of root (shown_asked asked) (subtotals_beside o known l) in
      let rest = files_after o known l in
      ap (λ (rows : List Row). here ++ rows) (rows_then rest roots ls more ms (omega (arith, is)))
      ∙ sym (append_assoc here (all_rows asked rest roots ls) (all_rows asked (files_behind o rest ls) more ms))

  -- they depend on which files are known alone
  rows_alike : (files known : List Identity) → HaveSame files known → (roots : List (List ℕ)) (ls : List (List (Item Worth Worth))) → all_rows asked files roots ls ≡ all_rows asked known roots ls
  rows_alike files known same [] [] = refl
  rows_alike files known same [] (l ∷ ls) = refl
  rows_alike files known same (root ∷ roots) [] = refl
  rows_alike files known same (root ∷ roots) (l ∷ ls) =
      let o = subtotals_asked asked in
      ap₂ (λ (a b : List Row). a ++ b) (ap (λ w. rows_of root (shown_asked asked) (listed_all o w)) (weighed_same o files known same l))
      (rows_alike (files_after o files l) (files_after o known l) (after_same o files known same l) roots ls)

both_first : (a b : Bool) → (a && b) ≡ true → a ≡ true
both_first true b is = refl
both_first false b is = is

both_second : (a b : Bool) → (a && b) ≡ true → b ≡ true
both_second true b is = is
both_second false b is = absurd (cc is)

module _ {fixed : Type 0} {are : List ℕ → List (Item Worth Worth) → Type 0} {below : List ℕ → List (Item Worth Worth)} {asked : Asked} where
  -- no roots
  pub none_counted : {none_before : Type 0} (roots : List (List ℕ)) → length roots < 1 → (known : List Identity) (old : Results) (before : Option (List ℕ)) → CountsMany fixed are below asked none_before roots known old before old before known true
  none_counted [] few known old before = record {
    counted = [];
    among = refl;
    first = λ _. refl;
    answered = [];
    such = tt;
    whole = λ _ _. refl;
    taken = takes_none old before;
    tells = refl;
    remembered = λ i. refl;
  }
  none_counted (root ∷ roots) few known old before = absurd (omega (arith, few))

  module _ (root : List ℕ) (known : List Identity) (old : Results) (before : Option (List ℕ)) (new : Results) (after : Option (List ℕ)) (counted : Counted) where
    -- a root that is left out
    root_out : {none_before : Type 0} → (none_before → ⊥) → IsLeftOut known old before new after counted → CountsMany fixed are below asked none_before (root ∷ []) known old before new after (files_of counted.files) counted.clean
    root_out some out = record {
      counted = [];
      among = inr refl;
      first = λ none. absurd (some none);
      answered = [];
      such = tt;
      whole = λ _ _. refl;
      taken = subst (λ (r : Results). Takes [] old before r after) (sym out.untaken) (subst (λ (w : Option (List ℕ)). Takes [] old before old w) (sym out.unwritten) (takes_none old before));
      tells = out.without_error;
      remembered = subst (λ (l : List Identity). HaveSame l known) (sym out.remembered) (λ i. refl);
    }

    -- a root that is counted
    root_in : {none_before : Type 0} → CountsBelow fixed (are root) (below root) asked root known old before new after counted → CountsMany fixed are below asked none_before (root ∷ []) known old before new after (files_of counted.files) counted.clean
    root_in counts =
        let o = subtotals_asked asked in
        record {
          counted = root ∷ [];
          among = inl ([], refl, refl);
          first = λ _. ([], refl, refl);
          answered = counts.answered ∷ [];
          such = (counts.such, tt);
          whole = λ always is. ap (λ (l : List (Item Worth Worth)). l ∷ []) (counts.whole always is);
          taken = subst (λ (rows : List Row). Takes rows old before new after) (sym (append-nil (rows_of root (shown_asked asked) (subtotals_beside o known counts.answered)))) counts.takes.taken;
          tells = counts.takes.tells ∙ ap (list_all is_clean) (sym (append-nil (subtotals_beside o known counts.answered)));
          remembered = counts.takes.remembered;
        }

    -- a root that is left out only if another is known
    later_root : (before_it n : ℕ) → before_it ≡ n → (before_it ≡ 0 → CountsBelow fixed (are root) (below root) asked root known old before new after counted) → IsLeftOut known old before new after counted
        → CountsMany fixed are below asked (before_it ≡ 0) (root ∷ []) known old before new after (files_of counted.files) counted.clean
    later_root before_it zero is first out = root_in (first is)
    later_root before_it (suc n) is first out = root_out (λ none. absurd (omega (arith, is, none))) out

    -- one root
    pub one_counted : (before_it : ℕ) → (before_it ≡ 0 → CountsBelow fixed (are root) (below root) asked root known old before new after counted) → CountsRoot fixed (are root) (below root) asked root known old before new after counted
        → CountsMany fixed are below asked (before_it ≡ 0) (root ∷ []) known old before new after (files_of counted.files) counted.clean
    one_counted before_it first (inl out) = later_root before_it before_it refl first out
    one_counted before_it first (inr counts) = root_in counts

  -- roots, and then others
  pub others_counted : {none_before none_between : Type 0} (roots more : List (List ℕ)) (known between files : List Identity) (old mid new : Results) (before during after : Option (List ℕ)) (clean rest : Bool)
      → 0 < length roots → CountsMany fixed are below asked none_before roots known old before mid during between clean → CountsMany fixed are below asked none_between more between mid during new after files rest
      → CountsMany fixed are below asked none_before (roots ++ more) known old before new after files (clean && rest)
  others_counted roots more known between files old mid new before during after clean rest some a b =
      let o = subtotals_asked asked in
      let behind = files_behind o known a.answered in
      record {
        counted = a.counted ++ b.counted;
        among = leaves_then roots a.counted more b.counted a.among b.among;
        first = λ none. keeps_then roots a.counted more b.counted some (a.first none) b.among;
        answered = a.answered ++ b.answered;
        such = such_then are a.counted a.answered b.counted b.answered a.such b.such;
        whole = λ always is.
            ap₂ (λ (x y : List (List (Item Worth Worth))). x ++ y) (a.whole always (both_first clean rest is)) (b.whole always (both_second clean rest is))
            ∙ sym (map-append below a.counted b.counted);
        taken = subst (λ (rows : List Row). Takes rows old before new after)
            (ap (λ (rows : List Row). all_rows asked known a.counted a.answered ++ rows) (rows_alike asked between behind a.remembered b.counted b.answered)
            ∙ sym (rows_then asked known a.counted a.answered b.counted b.answered (such_each are a.counted a.answered a.such)))
            (takes_then (all_rows asked known a.counted a.answered) (all_rows asked between b.counted b.answered) old mid new before during after a.taken b.taken);
        tells =
            ap₂ (λ (x y : Bool). x && y) a.tells (b.tells ∙ ap (list_all is_clean) (subtotals_alike o between behind a.remembered b.answered))
            ∙ sym (ap (list_all is_clean) (subtotals_then o known a.answered b.answered) ∙ all_seam is_clean (all_subtotals o known a.answered) (all_subtotals o behind b.answered));
        remembered = λ i. b.remembered i ∙ files_alike o between behind a.remembered b.answered i ∙ ap (λ (l : List Identity). is_among l i) (sym (files_then o known a.answered b.answered));
      }

  -- all roots, from the beginning
  pub roots_counted : {none_before : Type 0} {roots : List (List ℕ)} {known files : List Identity} {old new : Results} {before after : Option (List ℕ)} {clean : Bool} → none_before → known ≡ [] → CountsMany fixed are below asked none_before roots known old before new after files clean
      → CountsRoots fixed are below asked roots old before new after clean
  roots_counted {none_before} {roots} {known} {files} {old} {new} {before} {after} {clean} none empty counts =
      let same = subst (λ (l : List Identity). CountsMany fixed are below asked none_before roots l old before new after files clean) empty counts in
      record {
        counted = same.counted;
        among = same.first none;
        answered = same.answered;
        such = same.such;
        whole = same.whole;
        taken = same.taken;
        tells = same.tells;
      }

-- the same roots, by another name
pub many_as : {fixed : Type 0} {are : List ℕ → List (Item Worth Worth) → Type 0} {below : List ℕ → List (Item Worth Worth)} {asked : Asked} {none_before : Type 0} {roots roots' : List (List ℕ)} {known files : List Identity} {old new : Results} {before after : Option (List ℕ)} {clean : Bool}
    → roots ≡ roots' → CountsMany fixed are below asked none_before roots known old before new after files clean → CountsMany fixed are below asked none_before roots' known old before new after files clean
many_as {fixed} {are} {below} {asked} {none_before} {known} {files} {old} {new} {before} {after} {clean} is =
    subst (λ (r : List (List ℕ)). CountsMany fixed are below asked none_before r known old before new after files clean) is

-- a slice of one root, and the texts of two slices
pub one_text : (roots : List (Bor (List ℕ))) (d : Bor (List ℕ)) → 1 ≤ length roots → length roots < 2 → (slice_index_or roots 0 d).now ∷ [] ≡ texts_of roots
one_text [] d some few = absurd (omega (arith, some))
one_text (root ∷ []) d some few = refl
one_text (root ∷ other ∷ roots) d some few = absurd (omega (arith, few))

pub texts_then : (roots first rest : List (Bor (List ℕ))) → roots ≡ first ++ rest → texts_of first ++ texts_of rest ≡ texts_of roots
texts_then roots first rest are = sym (ap texts_of are ∙ map-append (λ it. it.now) first rest)

pub texts_few : (roots : List (Bor (List ℕ))) → length roots < 1 → length (texts_of roots) < 1
texts_few [] few = few
texts_few (root ∷ roots) few = absurd (omega (arith, few))

pub texts_some : (roots : List (Bor (List ℕ))) → 0 < length roots → 0 < length (texts_of roots)
texts_some [] some = absurd (omega (arith, some))
texts_some (root ∷ roots) some = omega arith

-- what holds of a result follows from two facts of it, of which one has a premise
pub ok_with : {X Y N : Type 0} {P Q R : X → Type 0} (r : Result X Y) → ((x : X) → (N → P x) → Q x → R x) → (N → IfOk r P) → IfOk r Q → IfOk r R
ok_with (Ok x) more first second = more x first second
ok_with (Err y) more first second = tt

-- one of two facts, of which the first makes another
pub first_makes : {P Q R : Type 0} → P ⊎ Q → (P → R) → R ⊎ Q
first_makes (inl p) make = inl (make p)
first_makes (inr q) make = inr q

-- what holds of a result that is known
pub ok_known : {X Y : Type 0} (r : Result X Y) (v : X) (P : X → Type 0) → r ≡ Ok v → IfOk r P → P v
ok_known {X} {Y} r v P is said = subst (λ (o : Result X Y). IfOk o P) is said
