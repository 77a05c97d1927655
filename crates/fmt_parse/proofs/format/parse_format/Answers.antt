use Rattle.std.proofs.Common.{sym}
use Rattle.text_cut.specs.Seen.{seen}
use Rattle.fmt_parse.proofs.Ranges.{pieces_within}
use Rattle.fmt_parse.proofs.PiecesSoFar.{pieces_more, pieces_end, pieces_stop, piece_smaller}
use Rattle.fmt_parse.proofs.format.parse_format.Goals as goal

pub loop-piece-smaller : goal.loop-piece-smaller
loop-piece-smaller c = piece_smaller _ _ _ (seen c.loop-piece.here) _ (seen c.in-Some.behind) c.loop-piece.invariant c.in-Some.ensures.value

pub loop-piece-preserved : goal.loop-piece-preserved
loop-piece-preserved c =
    pieces_more _ _ _ _ _ (seen c.loop-piece.here) _ (seen c.in-Some.behind) c.loop-piece.invariant c.in-Some.ensures.value c.in-Some.ensures.width c.in_ok-add.ensures c.takes-number.ensures

pub returns-then-not-is_at_end-clause-fault : goal.returns-then-not-is_at_end-clause-fault
returns-then-not-is_at_end-clause-fault c = pieces_stop _ _ _ (seen c.loop-piece.here) c.loop-piece.invariant (record { none = sym c.in_default.ensures.value; more = c.if-not-is_at_end.ensures })

pub returns-clause-read : goal.returns-clause-read
returns-clause-read c = pieces_end _ _ _ (seen c.loop-piece.here) c.loop-piece.invariant (c.if-not-is_at_end.ensures)

pub returns-clause-ranges : goal.returns-clause-ranges
returns-clause-ranges c = pieces_within _ _ c.utf8.text (returns-clause-read c)
