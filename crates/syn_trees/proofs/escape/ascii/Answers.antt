use Rattle.std.proofs.Common.{◌∙◌, None, ap, sym}
use Rattle.std.specs.Option.{option_map}
use Rattle.text_cut.specs.Seen.{seen}
use Rattle.syn_trees.proofs.Units.{ascii_in-two}
use Rattle.syn_trees.proofs.escape.ascii.Goals as goal

pub returns-in_err-c-clause-value : goal.returns-in_err-c-clause-value
returns-in_err-c-clause-value c =
    ap (λ o. option_map (λ r. (r.0, seen r.1)) o) c.from_residual-in_err-c.ensures
    ∙ sym (ascii_in-two (seen c.args.here) _ _ _ (seen c.in_ok-low.behind) None (sym c.in_ok-high.ensures.value) (sym c.in_ok-low.ensures.value) c.in_err-c.ensures)
