use Rattle.std.proofs.Common.{◌∙◌, ◌<◌, ◌≤◌, ◌-◌, ℕ, Option, Ok, Global, length, map, ap, sym, arith}
use Rattle.std.specs.Prelude.{option_map}
use Rattle.std.specs.declared.vec.Vec.{Vec}
use Rattle.std.proofs.lemmas.Result.{err_from_is_err_and}
use Rattle.git_config.specs.Config.{config_in}
use Rattle.git_config.specs.Readings.{config_value, setting_value}
use Rattle.user_excludes.specs.Home.{home_value}
use Rattle.user_excludes.specs.Named.{unless_bad, with_file, BadLine}
use Rattle.user_excludes.specs.NamedViews.{named_value}
use Rattle.user_excludes.proofs.NamedFacts.{excludes_fail, file_ends, file_fails, included_fails, path_fails, setting_fails}
use Rattle.user_excludes.proofs.UnreadFacts.{fails_with}
use Rattle.user_excludes.proofs.named.+with_file.Goals as goal

pub returns-in_err-bytes : goal.returns-in_err-bytes
returns-in_err-bytes g t c = λ fixed.
    let p = err_from_is_err_and c.from_residual.result c.from_residual.ensures.1 in
    rw (p.1, p.2) (file_fails (g.X.Texts.functions c.args.texts.now) (home_value c.args.home) c.args.left c.args.file.now (named_value c.args.named) c.in_err-bytes.field-0.0 (c.in_err-bytes.ensures fixed))

pub returns-in_err-named : goal.returns-in_err-named
returns-in_err-named g t c = λ fixed.
    let texts = g.X.Texts.functions c.args.texts.now in
    let home = home_value c.args.home in
    let some : 0 < c.args.left = omega arith in
    let read = c.in_ok-bytes.ensures fixed ∙ ap (λ (o : Option (Vec ℕ Global)). Ok (option_map (λ bytes. bytes.items) o)) c.in-Some.is in
    let is = c.in_ok-config.ensures ∙ ap config_in c.deref.ensures.value in
    let items = c.deref-setting-items.result.now in
    let all = ap (map setting_value) (sym c.deref-setting-items.ensures.value) in
    let include = with_file texts home (c.args.left - 1) in
    let setting = setting_value c.setting-item.result in
    let p = err_from_is_err_and c.from_residual-in_err-named.result c.from_residual-in_err-named.ensures.1 in
    rw (p.1, p.2) (setting_fails texts home c.args.left c.args.file.now c.in-Some.bytes.items (config_value c.in_ok-config.config) (named_value c.args.named) (named_value c.loop-setting.named) items c.loop-setting.setting-index some read is all (c.loop-setting.invariant fixed)
    c.setting-item.result c.in_err-named.field-0.0 c.loop-setting-test.true c.setting-item.is
    (excludes_fail include home c.args.file.now setting (named_value c.loop-setting.named) c.in_err-named.field-0.0 c.if-is_excludes.ensures c.in_err-named.ensures))

pub returns-in_err-path : goal.returns-in_err-path
returns-in_err-path g t c = λ fixed.
    let texts = g.X.Texts.functions c.args.texts.now in
    let home = home_value c.args.home in
    let some : 0 < c.args.left = omega arith in
    let read = c.in_ok-bytes.ensures fixed ∙ ap (λ (o : Option (Vec ℕ Global)). Ok (option_map (λ bytes. bytes.items) o)) c.in-Some.is in
    let is = c.in_ok-config.ensures ∙ ap config_in c.deref.ensures.value in
    let items = c.deref-setting-items.result.now in
    let all = ap (map setting_value) (sym c.deref-setting-items.ensures.value) in
    let include = with_file texts home (c.args.left - 1) in
    let setting = setting_value c.setting-item.result in
    let p = err_from_is_err_and c.from_residual-in_err-path.result c.from_residual-in_err-path.ensures.1 in
    rw (p.1, p.2) (setting_fails texts home c.args.left c.args.file.now c.in-Some.bytes.items (config_value c.in_ok-config.config) (named_value c.args.named) (named_value c.loop-setting.named) items c.loop-setting.setting-index some read is all (c.loop-setting.invariant fixed)
    c.setting-item.result c.in_err-path.field-0.0 c.loop-setting-test.true c.setting-item.is
    (path_fails include home c.args.file.now setting (named_value c.loop-setting.named) c.in_err-path.field-0.0 c.if-is_excludes.ensures c.if-is_include.ensures c.in_err-path.ensures))

pub returns-in_err-named-2 : goal.returns-in_err-named-2
returns-in_err-named-2 g t c = λ fixed.
    let texts = g.X.Texts.functions c.args.texts.now in
    let home = home_value c.args.home in
    let some : 0 < c.args.left = omega arith in
    let read = c.in_ok-bytes.ensures fixed ∙ ap (λ (o : Option (Vec ℕ Global)). Ok (option_map (λ bytes. bytes.items) o)) c.in-Some.is in
    let is = c.in_ok-config.ensures ∙ ap config_in c.deref.ensures.value in
    let items = c.deref-setting-items.result.now in
    let all = ap (map setting_value) (sym c.deref-setting-items.ensures.value) in
    let include = with_file texts home (c.args.left - 1) in
    let setting = setting_value c.setting-item.result in
    let p = err_from_is_err_and c.from_residual-in_err-named-2.result c.from_residual-in_err-named-2.ensures.1 in
    rw (p.1, p.2) (setting_fails texts home c.args.left c.args.file.now c.in-Some.bytes.items (config_value c.in_ok-config.config) (named_value c.args.named) (named_value c.loop-setting.named) items c.loop-setting.setting-index some read is all (c.loop-setting.invariant fixed)
    c.setting-item.result c.in_err-named-2.field-0.0 c.loop-setting-test.true c.setting-item.is
    (included_fails include home c.args.file.now setting (named_value c.loop-setting.named) c.as_str.result.now c.in_err-named-2.field-0.0 c.if-is_excludes.ensures c.if-is_include.ensures (c.in_ok-path.ensures ∙ ap Ok (sym c.as_str.ensures.value)) (c.in_err-named-2.ensures fixed)))

pub returns-in-Some-bad : goal.returns-in-Some-bad
returns-in-Some-bad g t c = λ fixed.
    let texts = g.X.Texts.functions c.args.texts.now in
    let home = home_value c.args.home in
    let some : 0 < c.args.left = omega arith in
    let read = c.in_ok-bytes.ensures fixed ∙ ap (λ (o : Option (Vec ℕ Global)). Ok (option_map (λ bytes. bytes.items) o)) c.in-Some.is in
    let is = c.in_ok-config.ensures ∙ ap config_in c.deref.ensures.value in
    let items = c.deref-setting-items.result.now in
    let all = ap (map setting_value) (sym c.deref-setting-items.ensures.value) in
    let include = with_file texts home (c.args.left - 1) in
    let past : length items ≤ c.loop-setting.setting-index = omega arith in
    fails_with c.bad_line.result (BadLine c.args.file.now c.in-Some-bad.line) (with_file texts home c.args.left c.args.file.now (named_value c.args.named)) c.bad_line.ensures
    (file_ends texts home c.args.left c.args.file.now c.in-Some.bytes.items (config_value c.in_ok-config.config) (named_value c.args.named) (named_value c.loop-setting.named) items c.loop-setting.setting-index some read is all (c.loop-setting.invariant fixed) past
    ∙ ap (λ (b : Option ℕ). unless_bad c.args.file.now b (named_value c.loop-setting.named)) c.in-Some-bad.is)

pub returns : goal.returns
returns g t c = λ fixed.
    let texts = g.X.Texts.functions c.args.texts.now in
    let home = home_value c.args.home in
    let some : 0 < c.args.left = omega arith in
    let read = c.in_ok-bytes.ensures fixed ∙ ap (λ (o : Option (Vec ℕ Global)). Ok (option_map (λ bytes. bytes.items) o)) c.in-Some.is in
    let is = c.in_ok-config.ensures ∙ ap config_in c.deref.ensures.value in
    let items = c.deref-setting-items.result.now in
    let all = ap (map setting_value) (sym c.deref-setting-items.ensures.value) in
    let include = with_file texts home (c.args.left - 1) in
    let past : length items ≤ c.loop-setting.setting-index = omega arith in
    file_ends texts home c.args.left c.args.file.now c.in-Some.bytes.items (config_value c.in_ok-config.config) (named_value c.args.named) (named_value c.loop-setting.named) items c.loop-setting.setting-index some read is all (c.loop-setting.invariant fixed) past
    ∙ ap (λ (b : Option ℕ). unless_bad c.args.file.now b (named_value c.loop-setting.named)) c.in-None.is
