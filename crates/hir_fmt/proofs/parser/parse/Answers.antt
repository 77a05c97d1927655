use Rattle.std.proofs.Common.{◌≡◌, inl, inr, sym, ◌∙◌, subst}
use Rattle.std.specs.List.{All}
use Rattle.syn_trees.specs.Literal.{FitsBetweenQuotes}
use Rattle.fmt_parse.specs.Pieces.{ArePieces}
use Rattle.fmt_parse.specs.Ranges.{OfEachRange}
use Rattle.hir_fmt.specs.Literal.{IsRangeOf}
use Rattle.hir_fmt.specs.Parsed.{IsFormat}
use Rattle.hir_fmt.specs.Reading.{IsFormatRead, HasFormat}
use Rattle.hir_fmt.proofs.Walks.{ok_weaker, err_weaker}
use Rattle.hir_fmt.proofs.Parsing.{makes_template, tells_front, ranges_of}
use Rattle.hir_fmt.proofs.parser.parse.Goals as goal

pub literal-literal-requires : goal.literal-literal-requires
literal-literal-requires g c =
    let read : HasFormat c.args.s.now c.in-Some.format = subst (λ found. IsFormatRead c.args.s.now found) c.in-Some.is c.in_ok-format.ensures in
    subst (λ t. FitsBetweenQuotes c.args.s.now t) (sym c.as_str.ensures) read.value.fits

pub parse_pieces-requires-clause-within : goal.parse_pieces-requires-clause-within
parse_pieces-requires-clause-within g c =
    let read : HasFormat c.args.s.now c.in-Some.format = subst (λ found. IsFormatRead c.args.s.now found) c.in-Some.is c.in_ok-format.ensures in
    let source = c.literal-literal.result in
    let text : source.text.now ≡ c.in-Some.format.text = c.literal-literal.ensures.text ∙ c.as_str.ensures in
    subst (λ l. All (OfEachRange (IsRangeOf source)) l) (sym c.as_slice.ensures.value) (ranges_of c.in-Some.format.pieces.items source text read.pieces.within)

pub returns-in-Some-clause-makes : goal.returns-in-Some-clause-makes
returns-in-Some-clause-makes g c =
    let read : HasFormat c.args.s.now c.in-Some.format = subst (λ found. IsFormatRead c.args.s.now found) c.in-Some.is c.in_ok-format.ensures in
    let source = c.literal-literal.result in
    let text : source.text.now ≡ c.in-Some.format.text = c.literal-literal.ensures.text ∙ c.as_str.ensures in
    let format : IsFormat c.args.s.now c.in-Some.format.text c.as_slice.result.now = record { value = read.value.value; are = subst (λ l. ArePieces c.in-Some.format.text l) (sym c.as_slice.ensures.value) read.pieces.are } in
    ok_weaker c.parse_pieces.result (λ made p. inl (makes_template source text c.literal-literal.ensures.direct c.literal-literal.ensures.ptr c.literal-literal.ensures.shift format p)) c.parse_pieces.ensures.made

pub returns-in-Some-clause-gives_up : goal.returns-in-Some-clause-gives_up
returns-in-Some-clause-gives_up g c =
    let read : HasFormat c.args.s.now c.in-Some.format = subst (λ found. IsFormatRead c.args.s.now found) c.in-Some.is c.in_ok-format.ensures in
    let source = c.literal-literal.result in
    let text : source.text.now ≡ c.in-Some.format.text = c.literal-literal.ensures.text ∙ c.as_str.ensures in
    let format : IsFormat c.args.s.now c.in-Some.format.text c.as_slice.result.now = record { value = read.value.value; are = subst (λ l. ArePieces c.in-Some.format.text l) (sym c.as_slice.ensures.value) read.pieces.are } in
    err_weaker c.parse_pieces.result (λ p. inr (tells_front source text c.literal-literal.ensures.direct c.literal-literal.ensures.shift format p)) c.parse_pieces.ensures.halted
