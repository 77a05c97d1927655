-- A text is pieces in at most one way, or stops at one offset.
use Rattle.std.specs.Str.{chars}
use Rattle.text_cut.proofs.Pieces.{one_read, no_fault, one_fault}
use Rattle.fmt_parse.specs.Pieces.{IsPiece}
use Rattle.fmt_parse.specs.Laws.{HasOneReading}
use Rattle.fmt_parse.specs.ReadPieces.{format_piece_at}
use Rattle.fmt_parse.proofs.Pieces.{taken_by, pieces_read}

pub has_one_reading : HasOneReading
has_one_reading = record {
  one = λ text pieces others first second. one_read IsPiece taken_by format_piece_at pieces_read (chars text) pieces others first second;
  stop = λ text at other first second. one_fault IsPiece (chars text) at other first second;
  never_both = λ text pieces at read stop. no_fault IsPiece (chars text) pieces at read stop;
}
