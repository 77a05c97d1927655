use Rattle.text_cut.specs.Seen.{seen}
use Rattle.script_tokens.specs.Words.{continues_word}
use Rattle.script_tokens.proofs.WordRuns.{run_behind, run_bytes}
use Rattle.script_tokens.proofs.lexer.word_run.Goals as goal

pub text_between-requires : goal.text_between-requires
text_between-requires c = run_behind continues_word (seen c.args.here) _ c.word_end-end.ensures

pub returns-clause-text : goal.returns-clause-text
returns-clause-text c = run_bytes continues_word (seen c.args.here) _ _ c.text_between.utf8 c.word_end-end.ensures c.text_between.ensures
