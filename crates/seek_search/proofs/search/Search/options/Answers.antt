use Rattle.std.proofs.Common.{◌∙◌, ◌-◌, ◌^◌, ℕ, Bool, not, ap, ap₂}
use Rattle.jwalk.specs.jwalk_model.Options.{with_sort, with_skip_hidden, with_follow_links, with_same_file_system, with_keep_metadata, with_max_depth}
use Rattle.seek_search.specs.Search.{options_asked}
use Rattle.seek_search.proofs.OptionFacts.{at_most}
use Rattle.seek_search.proofs.search.Search.options.Goals as goal

pub returns : goal.returns
returns g c =
    let asked = c.args.self.now.asked.now in
    let sorted = c.with_sort.ensures ∙ ap (with_sort asked.sort) c.new.ensures in
    let hidden = c.with_skip_hidden.ensures ∙ ap (with_skip_hidden (not asked.hidden)) sorted in
    let followed = c.with_follow_links.ensures ∙ ap (with_follow_links asked.follow) hidden in
    let on_one = c.with_same_file_system.ensures ∙ ap (with_same_file_system asked.one_file_system) followed in
    let kept = c.with_keep_metadata.ensures ∙ ap (with_keep_metadata c.needs_metadata.result) on_one in
    c.with_max_depth.ensures
    ∙ ap (with_max_depth c.unwrap_or.result) kept
    ∙ ap₂ (λ (keeps : Bool) (depth : ℕ). with_max_depth depth (record (options_asked asked) { keep_metadata = keeps; max_depth = 2 ^ 64 - 1 })) c.needs_metadata.ensures c.unwrap_or.ensures
    ∙ at_most (options_asked asked).max_depth (record (options_asked asked) { max_depth = 2 ^ 64 - 1 })
