use Rattle.std.proofs.Common.{◌∙◌, Some, None, ap}
use Rattle.std.specs.Option.{option_map}
use Rattle.text_cut.specs.Seen.{seen}
use Rattle.syn_trees.proofs.Units.{unicode_behind-read}
use Rattle.syn_trees.proofs.escape.unicode_behind.Goals as goal

pub returns-in_err-c-clause-value : goal.returns-in_err-c-clause-value
returns-in_err-c-clause-value c =
    ap (λ o. option_map (λ r. (r.0, seen r.1)) o) c.from_residual-in_err-c.ensures
    ∙ unicode_behind-read (seen c.args.here) (seen c.digits_end-end.result) (seen c.in_ok-behind.behind) _ None c.digits_end-end.ensures.value c.in_ok-behind.ensures.value c.text_between.ensures c.in_err-c.ensures

pub returns-clause-value : goal.returns-clause-value
returns-clause-value c =
    unicode_behind-read (seen c.args.here) (seen c.digits_end-end.result) (seen c.in_ok-behind.behind) _ (Some c.in_ok-c.c) c.digits_end-end.ensures.value c.in_ok-behind.ensures.value c.text_between.ensures c.in_ok-c.ensures
