use Rattle.std.proofs.Common.{arith}
use Rattle.text_cut.specs.Seen.{seen}
use Rattle.syn_trees.specs.ReadString.{found_of}
use Rattle.syn_trees.proofs.Literals.{token_literal}
use Rattle.syn_trees.proofs.Quotes.{quotes_behind, token_behind, str_read}
use Rattle.syn_trees.proofs.quoted.lex_string.Goals as goal

pub text_between-requires : goal.text_between-requires
text_between-requires c = token_behind (seen c.args.here) (found_of c.in_ok-found.found) c.in_ok-found.ensures.value

pub text_between-requires-2 : goal.text_between-requires-2
text_between-requires-2 c = quotes_behind (seen c.args.here) (found_of c.in_ok-found.found) c.in_ok-found.ensures.value

pub invariant_of-token : goal.invariant_of-token
invariant_of-token c = record { literal = ∣ token_literal (seen c.args.here) (found_of c.in_ok-found.found) _ c.text_between.utf8 c.in_ok-found.ensures.value c.text_between.ensures (omega (arith, c.in_ok-found.found.end.small)) ∣₁ }

pub returns-clause-value : goal.returns-clause-value
returns-clause-value c = str_read (seen c.args.here) (found_of c.in_ok-found.found) _ _ c.text_between.utf8 c.text_between-2.utf8 c.in_ok-found.ensures.value c.text_between.ensures c.text_between-2.ensures
