-- An entry goes where it belongs, and the order stays.
use Rattle.std.proofs.Common.{rules, ◌≡◌, ◌<◌, true, false, is_some, length, set, slice_get, sym, subst, ◌∙◌, arith}
use Rattle.std.specs.List.{insert}
use Rattle.hir_store.specs.Unfolding.{place_of}
use Rattle.hir_store.specs.Entries.{IsRising, in_entry, with_entry}
use Rattle.hir_store.proofs.Entries.{lent_is_some, within_entries, with_entry_last, with_entry_written, with_entry_put, rising_with}
use Rattle.hir_store.proofs.expr_map.ExprMap.insert.Goals as goal

pub returns-then-is_behind_all-clause-entered : goal.returns-then-is_behind_all-clause-entered
returns-then-is_behind_all-clause-entered g c =
    rw (c.in_ok-push.ensures.items, c.self.view_is) (sym (with_entry_last c.args.id c.args.value c.args.self.now (c.is_behind_all.ensures c.if-is_behind_all.true)))

pub index_mut-requires : goal.index_mut-requires
index_mut-requires g c =
    let has : is_some (in_entry (place_of c.args.id) (slice_get c.args.self.now c.place_for-place.result)) ≡ true = lent_is_some _ _ c.value_at.ensures ∙ search rules in
    let within : c.place_for-place.result < length c.args.self.now = within_entries _ _ _ has in
    search rules

pub returns-then-is_some-clause-entered : goal.returns-then-is_some-clause-entered
returns-then-is_some-clause-entered g c =
    let has : is_some (in_entry (place_of c.args.id) (slice_get c.args.self.now c.place_for-place.result)) ≡ true = lent_is_some _ _ c.value_at.ensures ∙ search rules in
    rw c.self.view_is (sym (with_entry_written c.args.id c.args.value c.args.self.now c.place_for-place.result c.place_for-place.ensures.place has))

pub invariant_of-self-then-is_some : goal.invariant_of-self-then-is_some
invariant_of-self-then-is_some g c =
    let has : is_some (in_entry (place_of c.args.id) (slice_get c.args.self.now c.place_for-place.result)) ≡ true = lent_is_some _ _ c.value_at.ensures ∙ search rules in
    rw (c.self.view_is, ← with_entry_written c.args.id c.args.value c.args.self.now c.place_for-place.result c.place_for-place.ensures.place has)
    (rising_with c.args.id c.args.value c.args.self.now c.place_for-place.ensures.rising)

pub returns-clause-entered : goal.returns-clause-entered
returns-clause-entered g c =
    let free : is_some (in_entry (place_of c.args.id) (slice_get c.args.self.now c.place_for-place.result)) ≡ false = lent_is_some _ _ c.value_at.ensures ∙ search rules in
    rw (c.in_ok-insert.ensures.items, c.self.view_is) (sym (with_entry_put c.args.id c.args.value c.args.self.now c.place_for-place.result c.place_for-place.ensures.place free))

pub invariant_of-self-2 : goal.invariant_of-self-2
invariant_of-self-2 g c =
    let free : is_some (in_entry (place_of c.args.id) (slice_get c.args.self.now c.place_for-place.result)) ≡ false = lent_is_some _ _ c.value_at.ensures ∙ search rules in
    rw (c.in_ok-insert.ensures.items, c.self.view_is, ← with_entry_put c.args.id c.args.value c.args.self.now c.place_for-place.result c.place_for-place.ensures.place free)
    (rising_with c.args.id c.args.value c.args.self.now c.place_for-place.ensures.rising)
