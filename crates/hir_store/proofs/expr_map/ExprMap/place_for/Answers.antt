-- The entries are in rising order, so a search by halving comes to the place.
use Rattle.std.proofs.Common.{rules, of_calls, subst, nat_lt}
use Rattle.std.proofs.lemmas.Fn.{always_returns_same}
use Rattle.std.proofs.lemmas.List.Sorted.{IsPartitionedBy-ltb}
use Rattle.hir_store.specs.Entries.{place_in, IsRising, IsPlaceFor}
use Rattle.hir_store.proofs.Entries.{no_place_falls, place_from_point}
use Rattle.hir_store.proofs.expr_map.ExprMap.place_for.Goals as goal

pub returns-clause-place : goal.returns-clause-place
returns-clause-place g c =
    let number = c.into_u32-number.result in
    let entries = c.deref.result.now in
    let rising : IsRising entries = rw c.deref.ensures.value c.self.invariant in
    let point = c.partition_point.ensures.partitioned (λ entry. nat_lt (place_in entry) number) (always_returns_same _ _ _ (λ a r f k. search (rules, of_calls))) (IsPartitionedBy-ltb place_in entries number (no_place_falls entries rising)) in
    let stands : IsPlaceFor entries number c.partition_point.result = place_from_point entries number c.partition_point.result c.partition_point.ensures.bound point in
    rw (← c.self.view_is, ← c.deref.ensures.value) (subst (λ n. IsPlaceFor entries n c.partition_point.result) c.into_u32-number.ensures stands)
