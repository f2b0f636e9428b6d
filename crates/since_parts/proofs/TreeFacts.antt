-- What is behind the front of a path.
use Rattle.std.proofs.Common.{◌≡◌, ◌∙◌, ℕ, Bool, true, false, List, drop, length, Option, None, Some, MatchOption, ap, sym, subst, Bor}
use Rattle.std.specs.Prelude.{option_copied, if◌then◌else◌}
use Rattle.std.specs.Str.{IsCharBoundary}
use Rattle.std.specs.Str.Pattern.{FindsTextPrefix, StripsPrefix}
use Rattle.std.proofs.lemmas.Str.Pattern.{starts_text}
use Rattle.since_parts.specs.Tree.{strip}

-- what `strip_prefix` returns
pub strip_is : (front path : List ℕ) (r : Option (Bor (List ℕ))) → MatchOption r (FindsTextPrefix front path None) (λ x. StripsPrefix (FindsTextPrefix front) path x.now) → option_copied r ≡ strip front path
strip_is front path None lacks = ap (λ (b : Bool). if b then Some (drop (length front) path) else None) (starts_text false front path lacks)
strip_is front path (Some x) (n, finds, is, len) =
    ap (λ (l : List ℕ). Some l) (is ∙ ap (λ (k : ℕ). drop k path) finds.0)
    ∙ ap (λ (b : Bool). if b then Some (drop (length front) path) else None) (starts_text true front path (n, finds, subst (IsCharBoundary path) (sym finds.0) finds.2))
