-- What is built step by step: sums of what the steps place.
use Rattle.std.proofs.Common.{◌≡◌, ℕ, ◌+◌, ◌≤◌, inl, inr, length, Result, Ok, Err, refl, sym, ap, ◌∙◌, arith}
use Rattle.std.specs.Prelude.{IsErrAnd}
use Rattle.hir_store.specs.declared.store.ExpressionStore.{ExpressionStore}
use Rattle.hir_store.specs.Store.{Grows, NoDanglingIds}
use Rattle.hir_store.proofs.Grown.{longer, grows_self, grows_on}
use Rattle.hir_build.specs.declared.error.LowerError.{LowerError}
use Rattle.hir_build.specs.declared.error.LowerError.TheVariants.{ArenaFull}
use Rattle.hir_build.specs.Frame.{Frame}
use Rattle.hir_build.specs.Building.{Builds, Outgrows}
use Rattle.hir_build.proofs.Placed.{tree_later}

pub builds_none : (frame : Frame) → Builds frame frame 0 0
builds_none frame = record {
  grows = grows_self frame.store;
  trees = λ id lt. refl;
  file = refl;
  items = refl;
  fresh = omega arith;
  names = omega arith;
  exprs = omega arith;
  pats = omega arith;
  bindings = omega arith;
}

-- a store that grew
pub builds_grown : (old : Frame) (new : ExpressionStore) (fresh most lets : ℕ) → NoDanglingIds old.store → Grows old.store new → old.fresh ≤ fresh → fresh ≤ old.fresh + lets →
    length new.exprs ≤ length old.store.exprs + most → length new.pats ≤ length old.store.pats + lets → length new.bindings ≤ length old.store.bindings + lets →
    Builds old (record old { store = new; fresh = fresh }) most lets
builds_grown old new fresh most lets sound grows le names exprs pats bindings = record {
  grows = grows;
  trees = tree_later old.store new grows sound;
  file = refl;
  items = refl;
  fresh = le;
  names = names;
  exprs = exprs;
  pats = pats;
  bindings = bindings;
}

-- two steps, one behind the other
pub builds_then : {a b c : Frame} {most lets more others : ℕ} → Builds a b most lets → Builds b c more others → Builds a c (most + more) (lets + others)
builds_then {a} {b} {c} first second = record {
  grows = grows_on a.store b.store c.store first.grows second.grows;
  trees = λ id lt. second.trees id (omega (arith, lt, longer a.store b.store first.grows)) ∙ first.trees id lt;
  file = second.file ∙ first.file;
  items = second.items ∙ first.items;
  fresh = omega (arith, first.fresh, second.fresh);
  names = omega (arith, first.names, second.names);
  exprs = omega (arith, first.exprs, second.exprs);
  pats = omega (arith, first.pats, second.pats);
  bindings = omega (arith, first.bindings, second.bindings);
}

-- more room than is taken
pub builds_within : {a b : Frame} {most lets sum all : ℕ} → Builds a b most lets → most ≤ sum → lets ≤ all → Builds a b sum all
builds_within first le lets_le = record {
  grows = first.grows;
  trees = first.trees;
  file = first.file;
  items = first.items;
  fresh = first.fresh;
  names = omega (arith, first.names, lets_le);
  exprs = omega (arith, first.exprs, le);
  pats = omega (arith, first.pats, lets_le);
  bindings = omega (arith, first.bindings, lets_le);
}

-- what binds nothing takes no fresh name
pub fresh_still : {a b : Frame} {most : ℕ} → Builds a b most 0 → b.fresh ≡ a.fresh
fresh_still built = omega (arith, built.fresh, built.names)

-- what does not fit behind a step does not fit together with it
pub outgrows_later : {a b : Frame} {most lets : ℕ} (more others sum all : ℕ) → Builds a b most lets → Outgrows b.store more others → most + more ≤ sum → lets + others ≤ all → Outgrows a.store sum all
outgrows_later more others sum all first (inl full) le lets_le = inl (omega (arith, first.exprs, full, le))
outgrows_later more others sum all first (inr (inl full)) le lets_le = inr (inl (omega (arith, first.pats, full, lets_le)))
outgrows_later more others sum all first (inr (inr full)) le lets_le = inr (inr (omega (arith, first.bindings, full, lets_le)))

-- a result that is refused
abbrev refused : (Y : Type 0) → LowerError → Result Y LowerError
refused Y e = Err e

-- a refusal that is handed on was the same before
pub same_refusal : {X Y : Type 0} (r : Result X LowerError) (e : LowerError) → IsErrAnd r (λ y. y ≡ e) → r ≡ Err ArenaFull → refused Y e ≡ refused Y ArenaFull
same_refusal (Ok x) e is full = absurd is
same_refusal (Err y) e is full = let same : y ≡ ArenaFull = let f = full in cc in ap Err (sym is ∙ same)
