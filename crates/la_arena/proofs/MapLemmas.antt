-- How the slots of a map change with those at its end.
use Rattle.std.proofs.Common.{◌≡◌, ℕ, zero, suc, ◌+◌, ◌-◌, max, List, [], ◌∷◌, ◌++◌, length, replicate, Option, None, refl, sym, ap, subst, ◌∙◌, arith}
use Rattle.std.proofs.lemmas.List.{append-nil, append_assoc, length-append, length-replicate, length-set, get_or-set_same, get_or-set_other}
use Rattle.la_arena.specs.Map.{slot_at, grown, with_slot, Updates}

module _ {V : Type 0} where
  -- an empty slot at the end is as good as none
  pub slot_at-push_empty : (slots : List (Option V)) (number : ℕ) → slot_at (slots ++ None ∷ []) number ≡ slot_at slots number
  slot_at-push_empty [] zero = refl
  slot_at-push_empty [] (suc number) = refl
  slot_at-push_empty (slot ∷ slots) zero = refl
  slot_at-push_empty (slot ∷ slots) (suc number) = slot_at-push_empty slots number

  -- taking an empty slot off the end keeps what each number has
  pub slot_at-pop_empty : (first slots rest : List (Option V)) → slots ≡ rest ++ None ∷ [] → ((number : ℕ) → slot_at slots number ≡ slot_at first number) → (number : ℕ) → slot_at rest number ≡ slot_at first number
  slot_at-pop_empty first slots rest split same number =
      sym (slot_at-push_empty rest number) ∙ ap (λ s. slot_at s number) (sym split) ∙ same number

  length-grown : (slots : List (Option V)) (count : ℕ) → length (grown slots count) ≡ max (length slots) count
  length-grown slots count =
      let empty : Option V = None in
      let more = length-replicate (count - length slots) empty in
      let whole = length-append slots (replicate (count - length slots) empty) in
      omega arith

  -- more slots leave what each number has
  slot_at-grown : (slots : List (Option V)) (more number : ℕ) → slot_at (slots ++ replicate more None) number ≡ slot_at slots number
  slot_at-grown slots zero number = ap (λ s. slot_at s number) (append-nil slots)
  slot_at-grown slots (suc more) number =
      ap (λ s. slot_at s number) (sym (append_assoc slots (None ∷ []) (replicate more None)))
      ∙ slot_at-grown (slots ++ None ∷ []) more number
      ∙ slot_at-push_empty slots number

  updated : (slots : List (Option V)) (number : ℕ) (slot : Option V) → Updates slots (with_slot slots number slot) number slot
  updated slots number slot =
      let long = length-grown slots (number + 1) in
      record {
        changed = get_or-set_same (grown slots (number + 1)) number slot None (omega (arith, long));
        others = λ other differs. get_or-set_other (grown slots (number + 1)) number other slot None differs ∙ slot_at-grown slots _ other;
        slot_count = length-set (grown slots (number + 1)) number slot ∙ long;
      }

  -- a write of one slot changes what its number has, and no other
  pub Updates-with_slot : (old new : List (Option V)) (number : ℕ) (slot : Option V) → new ≡ with_slot old number slot → Updates old new number slot
  Updates-with_slot old new number slot written =
      subst (λ slots. Updates old slots number slot) (sym written) (updated old number slot)
