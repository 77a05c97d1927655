-- The law of the walk.
use Rattle.std.proofs.Common.{false, ◌∙◌, sym}
use Rattle.cfg_dnf.specs.Form.{form}
use Rattle.cfg_dnf.specs.Laws.{WalksInOrder}
use Rattle.cfg_dnf.proofs.Agreement.{agrees}
use Rattle.cfg_dnf.proofs.Walk.{chooses, begins, goes_on, bounded}

pub walks_in_order : WalksInOrder
walks_in_order = record {
  lists = λ expr. chooses (form expr false) ∙ sym (agrees expr false);
  begins = λ expr. begins (form expr false);
  goes_on = λ expr before choices after e. (goes_on (form expr false) before choices after e).0;
  lessens = λ expr before choices after e. (goes_on (form expr false) before choices after e).1;
  bounded = λ expr. bounded (form expr false);
}
