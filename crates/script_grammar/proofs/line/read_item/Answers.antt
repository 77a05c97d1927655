use Rattle.script_grammar.specs.Items.{item, item_of}
use Rattle.script_grammar.proofs.line.read_item.Goals as goal

pub returns : goal.returns
unfolding item_of
returns c = c.end_item.ensures (item c.args.ptr.node) c.args.here c.in_ok-item.ensures
