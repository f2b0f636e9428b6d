-- The order of addresses.
use Rattle.std.proofs.Common.{◌≡◌, ◌≢◌, ℕ, false, List, [], ◌∷◌, ◌++◌, Less, Equal, Greater, refl, sym, ap, ◌∙◌}
use Rattle.std.proofs.lemmas.Bool.{false≢true}
use Rattle.std.specs.Cmp.{nat_cmp_is}
use Rattle.std.specs.Cmp.Lexicographic.{nat_list_cmp_total, slice_cmp}
use Rattle.std.specs.FinMap.{nat_cmp-IsAntisymmetric, slice_cmp-IsAntisymmetric}
use Rattle.std.specs.Ordering.{nat_cmp, is_lt, ordering_reverse, ordering_then}
use Rattle.std.specs.declared.cmp.Ordering as cmp
use Rattle.jwalk_order.specs.IndexPath.{is_before}

-- An address comes before all that lie below it.
pub slice_cmp-append_left : (a rest : List ℕ) → rest ≢ [] → slice_cmp nat_cmp (a ++ rest) a ≡ Greater
slice_cmp-append_left [] [] some = absurd (some refl)
slice_cmp-append_left [] (x ∷ xs) some = refl
slice_cmp-append_left (x ∷ xs) rest some =
    ap (λ o. ordering_then o (slice_cmp nat_cmp (xs ++ rest) xs)) (sym (nat_cmp_is x x Equal refl))
    ∙ slice_cmp-append_left xs rest some

tied : (o p : cmp.Ordering) → o ≡ ordering_reverse p → is_lt o ≡ false → is_lt p ≡ false → o ≡ Equal
tied Less p dual h k = absurd (false≢true (sym h))
tied Equal p dual h k = refl
tied Greater Less dual h k = absurd (false≢true (sym k))
tied Greater Equal dual h k = dual
tied Greater Greater dual h k = absurd (false≢true (ap is_lt dual))

-- Two addresses of which neither comes before the other are equal.
pub same_address : (a b : List ℕ) → is_before a b ≡ false → is_before b a ≡ false → a ≡ b
same_address a b h k =
    slice_cmp-IsAntisymmetric nat_cmp-IsAntisymmetric a b (tied _ _ (nat_list_cmp_total.antisymm a b) h k)
