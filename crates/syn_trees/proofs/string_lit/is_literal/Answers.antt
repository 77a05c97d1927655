use Rattle.std.proofs.Common.{◌∙◌, ap}
use Rattle.text_cut.specs.Seen.{seen}
use Rattle.syn_trees.specs.ReadString.{token_end}
use Rattle.syn_trees.proofs.Literals.{no_token, literal_by_end}
use Rattle.syn_trees.proofs.string_lit.is_literal.Goals as goal

pub returns-in-Some : goal.returns-in-Some
returns-in-Some c = literal_by_end c.args.text.now (seen c.in-Some.end) c.is_at_end.result (c.in-Some.ensures.value ∙ ap (λ p. token_end p) c.begin.ensures) c.is_at_end.ensures c.if-text-gt-MAX_TOKEN_LEN.false

pub returns-in-None : goal.returns-in-None
returns-in-None c = ((λ t. absurd (cc)), λ literal. absurd (no_token c.args.text.now (c.in-None.ensures.value ∙ ap (λ p. token_end p) c.begin.ensures) literal))
