use Rattle.std.proofs.Common.{◌≡◌, ◌∙◌, ◌++◌, ◌∷◌, [], sym}
use Rattle.hir_fmt.proofs.Copies.{name_copied}
use Rattle.hir_fmt.proofs.FirstPlaces.{firsts_pushed}
use Rattle.hir_fmt.proofs.collector.enter.Goals as goal

pub returns-clause-firsts : goal.returns-clause-firsts
returns-clause-firsts c =
    let same : c.in_ok-bearer.bearer ≡ c.in_ok-key.key = name_copied _ _ c.in_ok-bearer.ensures.cases ∙ sym (name_copied _ _ c.in_ok-key.ensures.cases) in
    firsts_pushed c.args.names.now.items c.push_reserved.new.self.items c.args.places.now c.enter_first.new.places c.in_ok-key.key c.args.place c.requires c.in_ok-enter_first.ensures.ok
    (c.push_reserved.ensures.items ∙ (λ i. c.in_ok-reserve.ensures.items i ++ (same i, c.args.place) ∷ []))
