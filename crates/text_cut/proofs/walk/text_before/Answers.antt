use Rattle.std.proofs.Common.{take, ap, ◌∙◌, arith}
use Rattle.text_cut.proofs.Chars.{later_fits, cut_before, before_is}
use Rattle.text_cut.proofs.walk.text_before.Goals as goal

pub overflow_sub-text : goal.overflow_sub-text
overflow_sub-text c = later_fits _ _ c.requires.0 c.utf8.text c.utf8.later c.requires.1

pub range-requires-clause-end_boundary : goal.range-requires-clause-end_boundary
range-requires-clause-end_boundary c = cut_before _ _ c.requires.0 c.utf8.text c.utf8.later c.requires.1

pub returns : goal.returns
returns c = before_is _ _ c.requires.0 _ c.utf8.text c.utf8.later c.range.utf8 c.requires.1 (c.range.ensures.value ∙ ap (λ n. take n c.args.text.now) (omega arith))
