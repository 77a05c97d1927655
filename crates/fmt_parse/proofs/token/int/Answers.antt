use Rattle.std.proofs.Common.{◌≡◌, ◌∙◌, ap, sym, option_map, true}
use Rattle.std.specs.Str.{chars}
use Rattle.std.specs.Char.{is_ascii_digit}
use Rattle.text_cut.specs.Runs.{front, starts}
use Rattle.text_cut.specs.Seen.{seen}
use Rattle.fmt_parse.specs.Tokens.{number_from}
use Rattle.fmt_parse.proofs.Numbers.{too_great, first_left}
use Rattle.fmt_parse.proofs.token.int.Goals as goal

pub returns-in_err-value : goal.returns-in_err-value
returns-in_err-value c =
    let left = chars c.in-Some.behind.rest.now in
    let begins : starts is_ascii_digit (seen c.args.here).left ≡ true = sym c.if-not-starts_digit.ensures in
    let more = ap (λ l. number_from c.loop-c.value (front is_ascii_digit l)) (sym (first_left _ _ _ c.in-Some.ensures.value)) ∙ c.loop-c.invariant.number in
    let digit : is_ascii_digit c.in-Some.c ≡ true = sym c.if-not-is_ascii_digit.ensures.value in
    let none = too_great (seen c.args.here) c.loop-c.value c.in-Some.c left begins more digit (sym c.with_digit.ensures ∙ c.in_err-value.was) in
    ap (λ o. option_map (λ r. (r.0, seen r.1)) o) c.from_residual.ensures ∙ sym none
