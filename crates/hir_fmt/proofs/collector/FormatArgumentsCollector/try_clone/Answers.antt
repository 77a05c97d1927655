use Rattle.std.proofs.Common.{◌≡◌, rules}
use Rattle.hir_fmt.proofs.Copies.{collected_copied, places_copied}
use Rattle.hir_fmt.proofs.collector.FormatArgumentsCollector.try_clone.Goals as goal

pub invariant_of-result : goal.invariant_of-result
invariant_of-result c =
    let arguments : c.in_ok-arguments.arguments.items ≡ c.self.inside.arguments.items = search rules in
    let names : c.in_ok-names.names.items ≡ c.self.inside.names.items = search rules in
    collected_copied _ _ c.self.inside.places c.in_ok-places.places c.self.invariant
    (λ i. record { arguments = arguments i; num_unnamed_args = c.self.inside.num_unnamed_args; num_explicit_args = c.self.inside.num_explicit_args; names = names i })
    (places_copied c.self.inside.places c.in_ok-places.places c.in_ok-places.ensures.cases)
