-- Numbers and names: what stands at a place is found there, and what is found stands there.
use Rattle.std.proofs.Common.{◌≡◌, ℕ, ◌+◌, ◌≤◌, Bool, true, false, cond, List, [], ◌∷◌, ◌++◌, Some, None, ◌||◌, ◌&&◌, ◌==◌, nat_le, refl, ap, ◌∙◌, sym, subst, arith}
use Rattle.std.specs.Char.{len_utf8, is_ascii_digit}
use Rattle.std.proofs.lemmas.Bool.Decides.{nat_tests}
use Rattle.std.proofs.lemmas.Option.{same_Some}
use Rattle.unicode_ident.specs.Ident.{is_xid_start, is_xid_continue}
use Rattle.text_cut.specs.Runs.{starts, front, size}
use Rattle.text_cut.specs.Place.{Place, place, past, Took}
use Rattle.text_cut.specs.Rules.{Spells, Reads}
use Rattle.text_cut.proofs.Runs.{front_of, front_is}
use Rattle.text_cut.proofs.Rules.{took_one, took_both, past_is, past_run}
use Rattle.text_cut.proofs.OptionLaws.{chosen, none_some}
use Rattle.fmt_parse.specs.Tokens.{number_from, IsInt, starts_name, IsName}
use Rattle.fmt_parse.specs.ReadTokens.{if_small, int_at, past_name, name_at}

-- a text that begins so does with more behind it
pub starts_front : (p : ℕ → Bool) (text rest : List ℕ) → starts p text ≡ true → starts p (text ++ rest) ≡ true
starts_front p [] rest e = absurd (cc)
starts_front p (c ∷ text) rest e = e

-- the longest run begins as the text does
pub starts_run : (p : ℕ → Bool) (cs : List ℕ) → starts p (front p cs) ≡ starts p cs
starts_run p [] = refl
starts_run p (c ∷ cs) = by_test (p c) refl where
  by_test : (b : Bool) → p c ≡ b → starts p (cond b (c ∷ front p cs) []) ≡ p c
  by_test true e = refl
  by_test false e = sym e

fits : (n : ℕ) → n ≤ 65535 → nat_le n 65535 ≡ true
fits n small = grind (arith, nat_tests)

is_small : (n : ℕ) → nat_le n 65535 ≡ true → n ≤ 65535
is_small n e = grind (arith, nat_tests)

int_found : (at : ℕ) (text : List ℕ) (n : ℕ) (rest : List ℕ) → IsInt at text n rest → int_at (place at (text ++ rest)) ≡ Some (n, place (at + size text) rest)
unfolding int_at
int_found at text n rest h =
    ap (λ b. cond b (if_small (number_from 0 (front is_ascii_digit (text ++ rest))) (past is_ascii_digit (place at (text ++ rest)))) None) (starts_front is_ascii_digit text rest h.some)
    ∙ (ap (λ l. if_small (number_from 0 l) (past is_ascii_digit (place at (text ++ rest)))) (front_of is_ascii_digit text rest h.longest)
    ∙ (ap (λ e. if_small (number_from 0 text) e) (past_run is_ascii_digit text rest at h.longest)
    ∙ (ap (λ m. if_small m (place (at + size text) rest)) (sym h.value)
    ∙ ap (λ b. cond b (Some (n, place (at + size text) rest)) None) (fits n h.small))))

int_is : (p : Place) (r : ℕ × Place) → int_at p ≡ Some r → Spells IsInt p r
unfolding int_at
int_is p r found = chosen (starts is_ascii_digit p.left) (if_small (number_from 0 (front is_ascii_digit p.left)) (past is_ascii_digit p)) None (Some r) found
    (λ begins one. chosen (nat_le (number_from 0 (front is_ascii_digit p.left)) 65535) (Some (number_from 0 (front is_ascii_digit p.left), past is_ascii_digit p)) None (Some r) one
    (λ small same. subst (λ z. Spells IsInt p z) (same_Some _ _ same) (record {
      text = front is_ascii_digit p.left;
      took = past_is is_ascii_digit p;
      rule = record { some = starts_run is_ascii_digit p.left ∙ begins; longest = front_is is_ascii_digit p.left; value = refl; small = is_small (number_from 0 (front is_ascii_digit p.left)) small };
    }))
    (λ large none. absurd (none_some r none)))
    (λ other none. absurd (none_some r none))

pub int_reads : Reads IsInt int_at
int_reads = record { found = int_found; is = int_is }

-- Names

begins_by : (b d : Bool) (one other : Bool) → (one ≡ true → other ≡ true) → (b || (d && one)) ≡ true → (b || (d && other)) ≡ true
begins_by true d one other h e = refl
begins_by false true one other h e = h e
begins_by false false one other h e = e

-- a name that begins does with more behind it
pub name_front : (text rest : List ℕ) → starts_name text ≡ true → starts_name (text ++ rest) ≡ true
name_front [] rest e = absurd (cc)
name_front (c ∷ text) rest e = begins_by (is_xid_start c) (c == 95) (starts is_xid_continue text) (starts is_xid_continue (text ++ rest)) (starts_front is_xid_continue text rest) e

name_run : (c : ℕ) (cs : List ℕ) → starts_name (c ∷ cs) ≡ true → starts_name (c ∷ front is_xid_continue cs) ≡ true
name_run c cs e = begins_by (is_xid_start c) (c == 95) (starts is_xid_continue cs) (starts is_xid_continue (front is_xid_continue cs)) (λ s. starts_run is_xid_continue cs ∙ s) e

pub name_found : (at : ℕ) (text rest : List ℕ) → IsName text rest → name_at (place at (text ++ rest)) ≡ Some (place (at + size text) rest)
unfolding name_at
name_found at [] rest h = absurd (let e = h.begins in cc)
name_found at (c ∷ text) rest h =
    ap (λ b. cond b (Some (past_name (place (at + len_utf8 c) (text ++ rest)))) None) (name_front (c ∷ text) rest h.begins)
    ∙ (ap (λ e. Some e) (past_run is_xid_continue text rest (at + len_utf8 c) h.longest)
    ∙ ap (λ n. Some (place n rest)) (omega arith))

-- a name stands between two places
pub record NameIs (p e : Place) : Type 0 where
  pub text : List ℕ
  pub took : Took p e text
  pub name : IsName text e.left

name_in : (at : ℕ) (cs : List ℕ) (e : Place) → name_at (place at cs) ≡ Some e → NameIs (place at cs) e
unfolding name_at
name_in at [] e found = absurd (none_some e found)
name_in at (c ∷ cs) e found = chosen (starts_name (c ∷ cs)) (Some (past_name (place (at + len_utf8 c) cs))) None (Some e) found
    (λ begins same. subst (λ z. NameIs (place at (c ∷ cs)) z) (same_Some _ _ same) (record {
      text = c ∷ front is_xid_continue cs;
      took = took_both (place at (c ∷ cs)) (place (at + len_utf8 c) cs) (past is_xid_continue (place (at + len_utf8 c) cs)) (c ∷ []) (front is_xid_continue cs) (took_one at c cs) (past_is is_xid_continue (place (at + len_utf8 c) cs));
      name = record { begins = name_run c cs begins; longest = front_is is_xid_continue cs };
    }))
    (λ other none. absurd (none_some e none))

pub name_is : (p e : Place) → name_at p ≡ Some e → NameIs p e
name_is p e found = name_in p.at p.left e found
