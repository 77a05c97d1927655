use Rattle.syn_trees.proofs.Tokens.{token_found, TokenIs, token_is}
use Rattle.syn_trees.proofs.laws.tokens_are_read.Goals as goal

pub returns : goal.returns
returns c = record {
  found = token_found;
  is = λ p e there. let is : TokenIs p e = token_is p e there in (is.token, is.is, is.took);
}
