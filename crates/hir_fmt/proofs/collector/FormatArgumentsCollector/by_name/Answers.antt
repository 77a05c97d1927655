use Rattle.std.proofs.Common.{◌≡◌, ◌<◌, ◌∙◌, Some, length, slice_get, sym, ap, refl, arith, rules}
use Rattle.std.proofs.lemmas.Option.{slice_get_read}
use Rattle.hir_fmt.specs.declared.format_args.FormatArguments.{FormatArguments}
use Rattle.hir_fmt.specs.Firsts.{first_place}
use Rattle.hir_fmt.proofs.FirstPlaces.{first_below}
use Rattle.hir_fmt.proofs.collector.FormatArgumentsCollector.by_name.Goals as goal

pub index-requires : goal.index-requires
index-requires c =
    let found : first_place c.self.inside.names.items c.args.name.now ≡ Some c.in-Some.place.now = sym (c.self.invariant.firsts c.args.name.now) ∙ sym c.in-Some.ensures.value in
    let below : c.in-Some.place.now < length c.self.inside.arguments.items = first_below _ c.args.name.now c.in-Some.place.now c.self.invariant.within found in
    search (rules, arith, below)

pub returns-in-Some-clause-argument : goal.returns-in-Some-clause-argument
returns-in-Some-clause-argument c =
    let found : first_place c.self.inside.names.items c.args.name.now ≡ Some c.in-Some.place.now = sym (c.self.invariant.firsts c.args.name.now) ∙ sym c.in-Some.ensures.value in
    ap (λ (args : FormatArguments). slice_get args.arguments c.in-Some.place.now) (sym c.self.view_is)
    ∙ slice_get_read c.self.inside.arguments.items _ c.in-Some.place.now c.index.result.now refl (first_below _ c.args.name.now c.in-Some.place.now c.self.invariant.within found) c.index.ensures
