use Rattle.script_tokens.proofs.Lines.{line_found, line_is, one_line}
use Rattle.script_tokens.proofs.laws.lines_are_read.Goals as goal

pub returns : goal.returns
returns c = record {
  found = λ text toks rest at is. (line_found text toks rest at is).toks_are;
  ends = λ text toks rest at is. (line_found text toks rest at is).line_ends;
  is = λ here e found. let is = line_is here e found in (is.text, is.took, is.line);
  one = one_line;
}
