use Rattle.std.proofs.Common.{◌≡◌, ◌++◌, ◌-◌, ◌∙◌, ap, min, length, take, drop, replicate, ℕ, arith}
use Rattle.std.specs.Int.{from_be_bytes, w64}
use Rattle.std.proofs.lemmas.List.{drop-replicate, take_min}
use Rattle.jwalk_job.proofs.sorting.number.Goals as goal

pub returns : goal.returns
returns c =
    let bytes = c.args.bytes.now in
    let count = c.min-count.result in
    let made : c.from_be_bytes.result ≡ from_be_bytes w64 (c.copy_from_slice.new.self ++ drop count (replicate {A = ℕ} 8 0)) = c.from_be_bytes.ensures in
    let first : min (length bytes) 8 ≡ min 8 (length bytes) = omega arith in
    let missing : 8 - min (length bytes) 8 ≡ 8 - length bytes = omega arith in
    made
    ∙ ap (λ l. from_be_bytes w64 (l ++ drop count (replicate {A = ℕ} 8 0))) (c.copy_from_slice.ensures.after ∙ ap (λ k. take k bytes) (c.min-count.ensures ∙ first) ∙ take_min 8 bytes)
    ∙ ap (λ l. from_be_bytes w64 (take 8 bytes ++ l)) (drop-replicate count 8 0 ∙ ap (λ k. replicate {A = ℕ} (8 - k) 0) c.min-count.ensures ∙ ap (λ k. replicate {A = ℕ} k 0) missing)
