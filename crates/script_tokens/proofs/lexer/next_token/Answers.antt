use Rattle.script_tokens.proofs.Ahead.{ahead_found, end_found, fewer_left}
use Rattle.script_tokens.proofs.lexer.next_token.Goals as goal

pub returns-clause-value : goal.returns-clause-value
returns-clause-value c = ahead_found c.args.here c.spaced_token.result c.spaced_token.ensures

pub returns-clause-end : goal.returns-clause-end
returns-clause-end c = end_found c.args.here c.spaced_token.result c.spaced_token.ensures

pub returns-clause-fewer : goal.returns-clause-fewer
returns-clause-fewer c = fewer_left c.args.here c.spaced_token.result (ahead_found c.args.here c.spaced_token.result c.spaced_token.ensures)
