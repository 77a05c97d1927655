use Rattle.std.proofs.Common.{◌≡◌, Err, ◌∙◌, sym, ap, subst, arith}
use Rattle.std.proofs.lemmas.Result.{err_from_is_err_and}
use Rattle.text_cut.specs.Seen.{seen}
use Rattle.syn_trees.specs.declared.string_lit.EscapeError.TheVariants.{Escape}
use Rattle.syn_trees.specs.Literal.{HasValue}
use Rattle.syn_trees.specs.ReadString.{found_of}
use Rattle.syn_trees.proofs.Lengths.{value_between, value_short}
use Rattle.syn_trees.proofs.Literals.{between_size, raw_value, plain_value, no_value}
use Rattle.syn_trees.proofs.string_lit.StringLit.value.Goals as goal

pub unescape-requires : goal.unescape-requires
unescape-requires c = omega (arith, between_size (seen c.parts-parts.result.from) (seen c.parts-parts.result.to) c.text_between-inside.result.now c.text_between-inside.utf8 c.text_between-inside.ensures, c.parts-parts.result.to.small)

pub returns-in_err-text-in-None-clause-escape : goal.returns-in_err-text-in-None-clause-escape
returns-in_err-text-in-None-clause-escape c = λ refused.
    let told = err_from_is_err_and c.from_residual-in_err-text-in-None.result c.from_residual-in_err-text-in-None.ensures.1 in
    let same : told.0 ≡ Escape = let e = sym told.1 ∙ refused in cc in
    no_value c.args.self.now c.text_between-inside.result.now (found_of c.parts-parts.result) c.parts-parts.ensures.parts c.in-None.is c.text_between-inside.ensures (c.in_err-text-in-None.ensures.escape (ap Err (sym told.2 ∙ same)))

pub returns-in_ok-new-in-Some-clause-value : goal.returns-in_ok-new-in-Some-clause-value
returns-in_ok-new-in-Some-clause-value c = subst (λ l. HasValue c.args.self.now l) (sym c.in_ok-new-in-Some.ensures)
    (raw_value c.args.self.now c.text_between-inside.result.now (found_of c.parts-parts.result) c.in-Some.field-0 c.text_between-inside.utf8 c.parts-parts.ensures.parts c.in-Some.is c.text_between-inside.ensures)

pub returns-in_ok-new-in-None-clause-value : goal.returns-in_ok-new-in-None-clause-value
returns-in_ok-new-in-None-clause-value c =
    let units = c.in_ok-text-in-None.ensures.value in
    plain_value c.args.self.now c.text_between-inside.result.now c.in_ok-new-in-None.field-0 (found_of c.parts-parts.result) units.0 c.parts-parts.ensures.parts c.in-None.is c.text_between-inside.ensures units.1
    (c.in_ok-new-in-None.ensures ∙ (c.as_str.ensures.value ∙ units.2))

pub returns-in_ok-new-in-Some-clause-fits : goal.returns-in_ok-new-in-Some-clause-fits
returns-in_ok-new-in-Some-clause-fits c = value_between _ _ (returns-in_ok-new-in-Some-clause-value c)

pub returns-in_ok-new-in-Some-clause-short : goal.returns-in_ok-new-in-Some-clause-short
returns-in_ok-new-in-Some-clause-short c = value_short _ _ c.parts-parts.ensures.utf8 (returns-in_ok-new-in-Some-clause-value c)

pub returns-in_ok-new-in-None-clause-fits : goal.returns-in_ok-new-in-None-clause-fits
returns-in_ok-new-in-None-clause-fits c = value_between _ _ (returns-in_ok-new-in-None-clause-value c)

pub returns-in_ok-new-in-None-clause-short : goal.returns-in_ok-new-in-None-clause-short
returns-in_ok-new-in-None-clause-short c = value_short _ _ c.parts-parts.ensures.utf8 (returns-in_ok-new-in-None-clause-value c)
