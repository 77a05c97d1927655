-- The end of the last line, and the longest front of bytes that is UTF-8.
use Rattle.std.proofs.Common.{◌≡◌, ℕ, ◌-◌, ◌<◌, Bool, true, false, not, cond, List, [], ◌∷◌, ◌++◌, length, take, drop, nat_eq, Some, refl, ap, ◌∙◌, sym, subst, suc, arith}
use Rattle.std.specs.List.{slice_get}
use Rattle.std.specs.Str.{IsUtf8, IsValidUpTo}
use Rattle.std.proofs.lemmas.List.{length-take, take-append-drop, take_at}
use Rattle.std.proofs.lemmas.Option.{same_Some}
use Rattle.script.specs.Script.{ends_line, with_end}
use Rattle.script.specs.ReadLines.{IsValidFront}

-- the last byte tells whether the last line is ended
ends_by_last : (b : ℕ) (bytes : List ℕ) (c : ℕ) → slice_get (b ∷ bytes) (length bytes) ≡ Some c → ends_line (b ∷ bytes) ≡ nat_eq c 10
ends_by_last b [] c last = ap (λ x. nat_eq x 10) (same_Some _ _ last)
ends_by_last b (d ∷ bytes) c last = ends_by_last d bytes c last

other_arm : (t : Bool) (x y : List ℕ) → cond t x y ≡ cond (not t) y x
other_arm true x y = refl
other_arm false x y = refl

-- bytes with their last line ended, by their last byte
pub ended_by : (bytes : List ℕ) (c : ℕ) → Some c ≡ slice_get bytes (length bytes - 1) → with_end bytes ≡ cond (not (nat_eq c 10)) (bytes ++ 10 ∷ []) bytes
ended_by [] c last = absurd (cc)
ended_by (b ∷ bytes) c last =
    let at : suc (length bytes) - 1 ≡ length bytes = omega arith in
    ap (λ t. cond t (b ∷ bytes) ((b ∷ bytes) ++ 10 ∷ [])) (ends_by_last b bytes c (sym (last ∙ ap (λ n. slice_get (b ∷ bytes) n) at)))
    ∙ other_arm (nat_eq c 10) (b ∷ bytes) ((b ∷ bytes) ++ 10 ∷ [])

-- the bytes up to the first that is not UTF-8
pub valid_up_to : (bytes text : List ℕ) (n : ℕ) → IsValidUpTo bytes n → text ≡ take n bytes → IsValidFront bytes text
valid_up_to bytes text n valid is = record {
  rest = drop n bytes;
  there = sym (ap (λ l. l ++ drop n bytes) is ∙ take-append-drop n bytes);
  utf8 = subst (λ l. IsUtf8 l) (sym is) valid.front;
  longest = λ other left utf8 there.
      let longer : n < length other → ⊥ = λ more. valid.longest (length other) more (subst (λ l. IsUtf8 l) (sym (ap (λ l. take (length other) l) there ∙ take_at other left (length other) refl)) utf8) in
      omega (arith, longer, ap length is, length-take n bytes, valid.short);
}
