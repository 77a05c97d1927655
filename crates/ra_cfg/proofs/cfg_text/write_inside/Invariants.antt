use Rattle.ra_cfg.proofs.Writing.{WroteInside}
use Rattle.ra_cfg.proofs.cfg_text.write_inside.Given as goal

abbrev pub invariant-loop-c : goal.invariant-loop-c
invariant-loop-c g l = WroteInside g.W.Write.write_str_gives l.initial.f l.fn.text l.yielded l.c-iterator.rest.now l.f
