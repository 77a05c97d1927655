use Rattle.std.proofs.Common.{[], ◌∙◌, ap, sym, subst, arith}
use Rattle.std.specs.Str.{IsUtf8, chars}
use Rattle.std.proofs.lemmas.Str.{IsUtf8-past_char}
use Rattle.syn_trees.proofs.Digits.{DigitsSoFar, digits_begin, digits-other, digits-digit, number_small, digits_stop, hex_is, hex_is_not, digits_step, digits_ended}
use Rattle.syn_trees.proofs.escape.hex_number.Goals as goal

pub loop-c-init : goal.loop-c-init
loop-c-init c = let whole = ap (λ s. s.rest.now) c.into_iter-c-iterator.ensures.into_iter_gives ∙ c.chars-c-items.ensures.rest in record {
  utf8 = subst (λ bs. IsUtf8 bs) (sym whole) c.utf8.text;
  so_far = subst (λ bs. DigitsSoFar (chars c.args.text.now) 0 0 [] (chars bs)) (sym whole) (digits_begin (chars c.args.text.now));
}

pub returns-then-count-eq6 : goal.returns-then-count-eq6
returns-then-count-eq6 c = digits_stop _ _ _ _ _ _ (hex_is c.in-Some.c c.in-Some-to_digit.ensures.value.0) c.if-count-eq6.true
    (digits_step _ _ _ _ _ _ _ c.loop-c.invariant.utf8 c.in-Some.ensures.steps.0 c.loop-c.invariant.so_far)

pub overflow_mul-number : goal.overflow_mul-number
overflow_mul-number c = let small = number_small _ _ _ _ _ (omega (arith, c.loop-c.invariant.so_far.few, c.if-count-eq6.false)) c.loop-c.invariant.so_far in omega (arith, small)

pub overflow_add-number : goal.overflow_add-number
overflow_add-number c = let small = number_small _ _ _ _ _ (omega (arith, c.loop-c.invariant.so_far.few, c.if-count-eq6.false)) c.loop-c.invariant.so_far in omega (arith, small, c.in-Some-to_digit.ensures.value.0, c.in-Some-to_digit.ensures.value.1)

pub loop-c-preserved-in-Some-to_digit : goal.loop-c-preserved-in-Some-to_digit
loop-c-preserved-in-Some-to_digit c = record {
  utf8 = IsUtf8-past_char _ _ _ c.loop-c.invariant.utf8 c.in-Some.ensures.steps.0;
  so_far = digits-digit _ _ _ _ _ _ _ c.in-Some-to_digit.ensures.value.1 (hex_is c.in-Some.c c.in-Some-to_digit.ensures.value.0) (omega (arith, c.loop-c.invariant.so_far.few, c.if-count-eq6.false))
      (digits_step _ _ _ _ _ _ _ c.loop-c.invariant.utf8 c.in-Some.ensures.steps.0 c.loop-c.invariant.so_far);
}

pub loop-c-preserved : goal.loop-c-preserved
loop-c-preserved c = record {
  utf8 = IsUtf8-past_char _ _ _ c.loop-c.invariant.utf8 c.in-Some.ensures.steps.0;
  so_far = digits-other _ _ _ _ _ _ (hex_is_not c.in-Some.c c.in_default.ensures.value) (digits_step _ _ _ _ _ _ _ c.loop-c.invariant.utf8 c.in-Some.ensures.steps.0 c.loop-c.invariant.so_far);
}

pub returns : goal.returns
returns c = digits_ended _ _ _ _ _ c.in-None.ensures.steps.0.0 c.loop-c.invariant.so_far
