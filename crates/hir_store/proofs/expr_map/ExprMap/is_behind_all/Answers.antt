-- The last entry is for the latest expression.
use Rattle.std.proofs.Common.{rules, ◌≡◌, ◌<◌, ◌-◌, length, slice_get, Some, subst, ◌∙◌, ap, arith}
use Rattle.std.proofs.lemmas.Bool.Decides.{nat_tests}
use Rattle.hir_store.specs.Unfolding.{place_of}
use Rattle.hir_store.specs.Entries.{place_in, IsRising}
use Rattle.hir_store.proofs.Entries.{all_smaller}
use Rattle.hir_store.proofs.expr_map.ExprMap.is_behind_all.Goals as goal

pub returns-in-Some : goal.returns-in-Some
returns-in-Some g c = λ less.
    let last = c.in-Some.last.now in
    let behind : place_in last < place_of c.args.id = grind (arith, nat_tests, less, c.into_u32.ensures, c.into_u32-in-Some.ensures) in
    let ends : slice_get c.deref.result.now (length c.deref.result.now - 1) ≡ Some last = search rules in
    rw (← c.self.view_is, ← c.deref.ensures.value) (all_smaller c.deref.result.now last (place_of c.args.id) (rw c.deref.ensures.value c.self.invariant) ends behind)
