use Rattle.std.proofs.Common.{ap, ◌∙◌, ◌≡◌, refl}
use Rattle.hir_fmt.specs.References.{of_position, of_count, value_of, precision_of, width_of}
use Rattle.hir_fmt.specs.Template.{trait_of}
use Rattle.hir_fmt.specs.Literal.{source_of}
use Rattle.hir_fmt.proofs.Walks.{on_err, halts_at_once}
use Rattle.hir_fmt.proofs.Placeholders.{filled_is, finds_filled, halts_value, halts_precision, halts_width}
use Rattle.hir_fmt.proofs.placeholder.find_placeholder.Goals as goal

pub returns-in_err-position-clause-halted : goal.returns-in_err-position-clause-halted
returns-in_err-position-clause-halted g c =
    let s = source_of c.args.literal in
    let a = c.args.argument in
    let is_v : c.in_ok-value.value ≡ value_of s a = c.in_ok-value.ensures ∙ ap (of_position s a.position) c.span-value_span.ensures in
    on_err _ (halts_value s a is_v c.in_err-position.ensures.halted)

pub returns-in_err-precise-clause-halted : goal.returns-in_err-precise-clause-halted
returns-in_err-precise-clause-halted g c =
    let s = source_of c.args.literal in
    let a = c.args.argument in
    let is_v : c.in_ok-value.value ≡ value_of s a = c.in_ok-value.ensures ∙ ap (of_position s a.position) c.span-value_span.ensures in
    on_err _ (halts_precision s a is_v refl c.in_ok-position.ensures.found (halts_at_once _ _ _ _))

pub returns-in_err-precision-clause-halted : goal.returns-in_err-precision-clause-halted
returns-in_err-precision-clause-halted g c =
    let s = source_of c.args.literal in
    let a = c.args.argument in
    let is_v : c.in_ok-value.value ≡ value_of s a = c.in_ok-value.ensures ∙ ap (of_position s a.position) c.span-value_span.ensures in
    let is_q : c.in_ok-precise.precise ≡ precision_of s a = c.in_ok-precise.ensures ∙ ap (of_count s a.format.precision) c.span_if-precision_span.ensures in
    on_err _ (halts_precision s a is_v is_q c.in_ok-position.ensures.found c.in_err-precision.ensures.halted)

pub returns-in_err-wide-clause-halted : goal.returns-in_err-wide-clause-halted
returns-in_err-wide-clause-halted g c =
    let s = source_of c.args.literal in
    let a = c.args.argument in
    let is_v : c.in_ok-value.value ≡ value_of s a = c.in_ok-value.ensures ∙ ap (of_position s a.position) c.span-value_span.ensures in
    let is_q : c.in_ok-precise.precise ≡ precision_of s a = c.in_ok-precise.ensures ∙ ap (of_count s a.format.precision) c.span_if-precision_span.ensures in
    on_err _ (halts_width s a is_v is_q refl c.in_ok-position.ensures.found c.in_ok-precision.ensures.found (halts_at_once _ _ _ _))

pub returns-in_err-width-clause-halted : goal.returns-in_err-width-clause-halted
returns-in_err-width-clause-halted g c =
    let s = source_of c.args.literal in
    let a = c.args.argument in
    let is_v : c.in_ok-value.value ≡ value_of s a = c.in_ok-value.ensures ∙ ap (of_position s a.position) c.span-value_span.ensures in
    let is_q : c.in_ok-precise.precise ≡ precision_of s a = c.in_ok-precise.ensures ∙ ap (of_count s a.format.precision) c.span_if-precision_span.ensures in
    let is_w : c.in_ok-wide.wide ≡ width_of s a = c.in_ok-wide.ensures ∙ ap (of_count s a.format.width) c.span_if-width_span.ensures in
    on_err _ (halts_width s a is_v is_q is_w c.in_ok-position.ensures.found c.in_ok-precision.ensures.found c.in_err-width.ensures.halted)

pub returns-clause-found : goal.returns-clause-found
returns-clause-found g c =
    let s = source_of c.args.literal in
    let a = c.args.argument in
    let is_v : c.in_ok-value.value ≡ value_of s a = c.in_ok-value.ensures ∙ ap (of_position s a.position) c.span-value_span.ensures in
    let is_q : c.in_ok-precise.precise ≡ precision_of s a = c.in_ok-precise.ensures ∙ ap (of_count s a.format.precision) c.span_if-precision_span.ensures in
    let is_w : c.in_ok-wide.wide ≡ width_of s a = c.in_ok-wide.ensures ∙ ap (of_count s a.format.width) c.span_if-width_span.ensures in
    finds_filled s a is_v is_q is_w c.in_ok-position.ensures.found c.in_ok-precision.ensures.found c.in_ok-width.ensures.found
    (filled_is s a _ _ _ _ c.span.ensures _ (c.format_trait.ensures ∙ ap trait_of c.slice.ensures) _ c.options.ensures)
