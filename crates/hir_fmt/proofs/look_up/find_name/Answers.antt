use Rattle.std.proofs.Common.{rules, refl, ◌≡◌, true, false, sym, ◌∙◌}
use Rattle.hir_fmt.specs.Firsts.{same_name_is}
use Rattle.hir_fmt.proofs.Walks.{on_err}
use Rattle.hir_fmt.proofs.Lookups.{looks_found, looks_unknown, looks_captured, stops_captured}
use Rattle.hir_fmt.proofs.look_up.find_name.Goals as goal

pub returns-in-Some-clause-looked : goal.returns-in-Some-clause-looked
returns-in-Some-clause-looked g c = looks_found _ _ _ _ _ _ _ _ (sym c.place_of.ensures ∙ c.in-Some.is) c.in_ok-tell.ensures.logged

pub returns-then-not-literal-clause-looked : goal.returns-then-not-literal-clause-looked
returns-then-not-literal-clause-looked g c =
    let indirect : c.args.literal.is_direct ≡ false = search rules in
    looks_unknown _ _ _ _ _ _ indirect (sym c.place_of.ensures ∙ c.in_default.is)

pub returns-in_err-place-clause-stopped : goal.returns-in_err-place-clause-stopped
returns-in_err-place-clause-stopped g c =
    let direct : c.args.literal.is_direct ≡ true = search rules in
    on_err _ (stops_captured _ _ _ _ _ _ direct (sym c.place_of.ensures ∙ c.in_default.is) c.in_err-place.ensures.stopped)

pub returns-clause-looked : goal.returns-clause-looked
returns-clause-looked g c =
    let direct : c.args.literal.is_direct ≡ true = search rules in
    looks_captured _ _ _ _ _ _ _ _ _ ((same_name_is c.args.name.now c.args.name.now).1 refl) direct (sym c.place_of.ensures ∙ c.in_default.is) c.in_ok-place.ensures.captured
