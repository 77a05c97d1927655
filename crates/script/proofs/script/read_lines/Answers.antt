use Rattle.std.proofs.Common.{ap, ◌∙◌, sym, option_map, arith}
use Rattle.text_cut.specs.Seen.{seen}
use Rattle.script.proofs.Steps.{blank_less, blank_passed, item_less, item_passed, few_calls, few_macros}
use Rattle.script.proofs.script.read_lines.Goals as goal

pub loop-behind-smaller-in-Some : goal.loop-behind-smaller-in-Some
loop-behind-smaller-in-Some c = blank_less _ _ _ _ c.loop-behind.invariant.so_far c.in-Some.ensures.value

pub loop-behind-preserved-in-Some : goal.loop-behind-preserved-in-Some
loop-behind-preserved-in-Some c = record { so_far = blank_passed _ _ _ _ c.loop-behind.invariant.so_far c.in-Some.ensures.value }

pub next_ptr-requires : goal.next_ptr-requires
next_ptr-requires c = omega (arith, few_calls _ _ _ 16777217 c.utf8.text c.loop-behind.invariant.so_far c.requires)

pub add-requires : goal.add-requires
add-requires c = omega (arith, few_macros _ _ _ 16777217 c.utf8.text c.loop-behind.invariant.so_far c.requires)

pub loop-behind-smaller : goal.loop-behind-smaller
loop-behind-smaller c = item_less _ _ _ _ c.loop-behind.invariant.so_far _ c.next_ptr.ensures _ (ap (λ o. option_map (λ r. (r.0, seen r.1)) o) (sym c.in-Some-2.is) ∙ c.in_ok-item.ensures)

pub loop-behind-preserved : goal.loop-behind-preserved
loop-behind-preserved c = record {
  so_far = item_passed _ _ _ _ c.loop-behind.invariant.so_far _ c.next_ptr.ensures _ (ap (λ o. option_map (λ r. (r.0, seen r.1)) o) (sym c.in-Some-2.is) ∙ c.in_ok-item.ensures) _ c.in_ok-add.ensures;
}
