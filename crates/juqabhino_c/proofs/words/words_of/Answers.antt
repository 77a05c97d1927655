use Rattle.std.proofs.Common.{rules, ◌≡◌, ◌≢◌, ◌==◌, ◌++◌, ◌∷◌, [], List, ℕ, length, map, take, lit<, ap, ◌∙◌, sym, Ok}
use Rattle.std.specs.declared.alloc.AllocError.{AllocError}
use Rattle.std.proofs.lemmas.List.{map_more}
use Rattle.std.proofs.lemmas.Iterator.Splits.{YieldsList-from_str_split}
use Rattle.std.proofs.lemmas.Iterator.Consumers.{map_from_collect}
use Rattle.std.specs.List.{slice_split}
use Rattle.juqabhino_c.proofs.WordParts.{all_pushed}
use Rattle.juqabhino_c.proofs.words.words_of.Goals as goal

pub loop-part-init : goal.loop-part-init
loop-part-init c = record { pushed = c.new-words.ensures.items }

pub loop-part-preserved : goal.loop-part-preserved
loop-part-preserved c = record {
  pushed = c.in_ok-push.ensures.items
      ∙ (ap (λ (w : List (List ℕ)). w ++ c.in_ok-new.field-0 ∷ []) c.loop-part.invariant.pushed
      ∙ (ap (λ (x : List ℕ). map (λ x. x.now) (take c.loop-part.part-index c.deref-part-items.result.now) ++ x ∷ []) c.in_ok-new.ensures
      ∙ sym (map_more (λ x. x.now) c.deref-part-items.result.now c.loop-part.part-index _ c.loop-part-test.true)));
}

pub returns : goal.returns
returns c =
    let some : length c.args.text.now ≢ 0 = search rules in
    let split : map (λ x. x.now) c.in_ok-parts.parts.items ≡ slice_split (λ b. b == 32) c.args.text.now =
    map_from_collect {E = AllocError} (Ok c.in_ok-parts.parts) c.in_ok-parts.ensures.ran (YieldsList-from_str_split {s = c.split.result} 32 c.args.text.now (lit< tt) c.split.ensures.text c.split.ensures.has_more c.split.ensures.pattern) in
    all_pushed c.args.text.now c.loop-part.words.items c.deref-part-items.result.now c.loop-part.part-index some (ap (map (λ x. x.now)) c.deref-part-items.ensures.value ∙ split) c.loop-part.invariant.pushed c.loop-part-test.false
