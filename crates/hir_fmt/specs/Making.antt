-- A template that is being made, as the code holds it.
use Rattle.std.specs.Prelude.{ℕ, List}
use Rattle.std.specs.String.{string_bytes}
use Rattle.hir_fmt.specs.declared.format_args.FormatArgsPiece.{FormatArgsPiece}
use Rattle.hir_fmt.specs.declared.template.Making.{Making}

-- its pieces, and the literal behind them that may go on
abbrev pub made_of : Making → List FormatArgsPiece × List ℕ
made_of making = (making.pieces.items, string_bytes making.begun)
