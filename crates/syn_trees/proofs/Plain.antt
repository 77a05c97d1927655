-- Plain tokens: where one stands its end is found, and what is found is its end.
use Rattle.std.proofs.Common.{◌≡◌, ℕ, ◌+◌, Bool, true, false, cond, nat_eq, inl, inr, List, [], ◌∷◌, ◌++◌, Option, Some, refl, ap, eq-eqb, ◌∙◌, subst, arith}
use Rattle.std.specs.Char.{len_utf8}
use Rattle.std.proofs.lemmas.Bool.Decides.{nat_tests}
use Rattle.std.proofs.lemmas.Option.{same_Some}
use Rattle.text_cut.specs.Runs.{size}
use Rattle.text_cut.specs.Place.{Place, place, Took}
use Rattle.text_cut.proofs.OptionLaws.{chosen, none_some}
use Rattle.text_cut.proofs.Rules.{took_none, took_one, took_both}
use Rattle.syn_trees.specs.StringToken.{is_ordinary, IsInside}
use Rattle.syn_trees.specs.ReadString.{plain_in}

ordinary_no_quote : (c : ℕ) → is_ordinary c ≡ true → nat_eq c 34 ≡ false
ordinary_no_quote c e = grind (arith, nat_tests)

ordinary_no_slash : (c : ℕ) → is_ordinary c ≡ true → nat_eq c 92 ≡ false
ordinary_no_slash c e = grind (arith, nat_tests)

is_ordinary_by : (c : ℕ) → nat_eq c 34 ≡ false → nat_eq c 92 ≡ false → is_ordinary c ≡ true
is_ordinary_by c q s = grind (arith, nat_tests)

-- a character other than a quote is passed
passed : (c at : ℕ) (cs : List ℕ) (b : Bool) → nat_eq c 34 ≡ false → nat_eq c 92 ≡ b → plain_in false at (c ∷ cs) ≡ plain_in b (at + len_utf8 c) cs
passed c at cs b quote slash =
    ap (λ t. cond t (Some (place at (c ∷ cs), place (at + len_utf8 c) cs)) (plain_in (nat_eq c 92) (at + len_utf8 c) cs)) quote
    ∙ ap (λ t. plain_in t (at + len_utf8 c) cs) slash

-- the end whose quote is at this offset
abbrev ends_at : ℕ → List ℕ → Option (Place × Place)
ends_at at rest = Some (place at (34 ∷ rest), place (at + 1) rest)

further : (at other : ℕ) (rest : List ℕ) → at ≡ other → ends_at at rest ≡ ends_at other rest
further at other rest same = ap (λ n. ends_at n rest) same

-- what stands between the quotes is passed
pub plain_found : (inside rest : List ℕ) (at : ℕ) → IsInside inside → plain_in false at (inside ++ 34 ∷ rest) ≡ Some (place (at + size inside) (34 ∷ rest), place ((at + size inside) + 1) rest)
plain_found [] rest at is = further at (at + 0) rest (omega arith)
plain_found (c ∷ []) rest at is =
    passed c at (34 ∷ rest) false (ordinary_no_quote c is) (ordinary_no_slash c is) ∙ (plain_found [] rest (at + len_utf8 c) tt ∙ further ((at + len_utf8 c) + 0) (at + size (c ∷ [])) rest (omega arith))
plain_found (c ∷ d ∷ cs) rest at (inl is) =
    passed c at (d ∷ (cs ++ 34 ∷ rest)) false (ordinary_no_quote c is.0) (ordinary_no_slash c is.0)
    ∙ (plain_found (d ∷ cs) rest (at + len_utf8 c) is.1 ∙ further ((at + len_utf8 c) + size (d ∷ cs)) (at + size (c ∷ d ∷ cs)) rest (omega arith))
plain_found (c ∷ d ∷ cs) rest at (inr is) =
    passed c at (d ∷ (cs ++ 34 ∷ rest)) true (ap (λ x. nat_eq x 34) is.0) (eq-eqb c 92 is.0)
    ∙ (plain_found cs rest ((at + len_utf8 c) + len_utf8 d) is.1 ∙ further (((at + len_utf8 c) + len_utf8 d) + size cs) (at + size (c ∷ d ∷ cs)) rest (omega arith))

-- what stands between, behind a `\` or not
abbrev InsideFrom : Bool → List ℕ → Type 0
InsideFrom false inside = IsInside inside
InsideFrom true [] = ⊥
InsideFrom true (c ∷ inside) = IsInside inside

-- an end that was found: what stands in front of it, and its quote
record PlainEnds (escaped : Bool) (here : Place) (r : Place × Place) : Type 0 where
  inside : List ℕ
  are : InsideFrom escaped inside
  before : Took here r.0 inside
  quote : Took r.0 r.1 (34 ∷ [])

-- one more character in front
one_more : (c : ℕ) (inside : List ℕ) (b : Bool) → nat_eq c 34 ≡ false → nat_eq c 92 ≡ b → InsideFrom b inside → IsInside (c ∷ inside)
one_more c [] false quote slash are = is_ordinary_by c quote slash
one_more c (d ∷ inside) false quote slash are = inl (is_ordinary_by c quote slash, are)
one_more c (d ∷ inside) true quote slash are = inr (grind (arith, nat_tests), are)
one_more c [] true quote slash are = absurd are

longer : (at c : ℕ) (cs : List ℕ) (b : Bool) (r : Place × Place) → nat_eq c 34 ≡ false → nat_eq c 92 ≡ b → PlainEnds b (place (at + len_utf8 c) cs) r → PlainEnds false (place at (c ∷ cs)) r
longer at c cs b r quote slash ends = record {
  inside = c ∷ ends.inside;
  are = one_more c ends.inside b quote slash ends.are;
  before = took_both (place at (c ∷ cs)) (place (at + len_utf8 c) cs) r.0 (c ∷ []) ends.inside (took_one at c cs) ends.before;
  quote = ends.quote;
}

here_ends : (at c : ℕ) (cs : List ℕ) → c ≡ 34 → PlainEnds false (place at (c ∷ cs)) (place at (c ∷ cs), place (at + len_utf8 c) cs)
here_ends at c cs e = record {
  inside = [];
  are = tt;
  before = took_none (place at (c ∷ cs));
  quote = subst (λ d. Took (place at (c ∷ cs)) (place (at + len_utf8 c) cs) (d ∷ [])) e (took_one at c cs);
}

ends_is : (escaped : Bool) (at : ℕ) (cs : List ℕ) (r : Place × Place) → plain_in escaped at cs ≡ Some r → PlainEnds escaped (place at cs) r
ends_is escaped at [] r found = absurd (none_some r found)
ends_is true at (c ∷ cs) r found =
    let ends = ends_is false (at + len_utf8 c) cs r found in
    record {
      inside = c ∷ ends.inside;
      are = ends.are;
      before = took_both (place at (c ∷ cs)) (place (at + len_utf8 c) cs) r.0 (c ∷ []) ends.inside (took_one at c cs) ends.before;
      quote = ends.quote;
    }
ends_is false at (c ∷ cs) r found = chosen (nat_eq c 34) (Some (place at (c ∷ cs), place (at + len_utf8 c) cs)) (plain_in (nat_eq c 92) (at + len_utf8 c) cs) (Some r) found
    (λ quote same. subst (λ z. PlainEnds false (place at (c ∷ cs)) z) (same_Some _ _ same) (here_ends at c cs (grind (arith, nat_tests))))
    (λ quote more. longer at c cs (nat_eq c 92) r quote refl (ends_is (nat_eq c 92) (at + len_utf8 c) cs r more))

-- what is found is an end
pub record PlainIs (here : Place) (r : Place × Place) : Type 0 where
  pub inside : List ℕ
  pub are : IsInside inside
  pub before : Took here r.0 inside
  pub quote : Took r.0 r.1 (34 ∷ [])

pub plain_is : (here : Place) (r : Place × Place) → plain_in false here.at here.left ≡ Some r → PlainIs here r
plain_is here r found =
    let ends = ends_is false here.at here.left r found in
    record { inside = ends.inside; are = ends.are; before = ends.before; quote = ends.quote }
