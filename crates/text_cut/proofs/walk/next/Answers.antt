use Rattle.text_cut.proofs.Behind.{behind_char}
use Rattle.text_cut.proofs.walk.next.Goals as goal

pub returns-clause-behind : goal.returns-clause-behind
returns-clause-behind c = behind_char _ _ _ _ _ c.len_utf8.ensures.value c.in_ok-c.ensures.value
