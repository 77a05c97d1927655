-- The calls of a made script place few expressions, whatever the options are, and wherever they stand.
use Rattle.std.proofs.Common.{◌≡◌, ℕ, zero, suc, ◌+◌, ◌*◌, ◌≤◌, ◌%◌, ◌==◌, Bool, true, false, min, if◌then◌else◌, List, [], ◌∷◌, ◌++◌, map, codes, refl, inl, inr, arith}
use Rattle.std.specs.Char.{is_ascii}
use Rattle.std.specs.List.{range_with_len}
use Rattle.std.specs.Str.{IsUtf8}
use Rattle.ra_cfg.specs.Options.{OptionSet}
use Rattle.gated_calls.specs.declared.call.GatedCall.{GatedCall}
use Rattle.format_code.specs.FormatCall.{Surroundings}
use Rattle.hir_lower.specs.Lowered.{IsMostGated, AreMost}
use Rattle.script_generator.specs.Generated.{names_text}
use Rattle.script_generator.proofs.Length.{length_names}
use Rattle.generated_script.specs.Made.{quoted, plain_call, options_call, braces_call, assembly_call, call_at, last_call}
use Rattle.generated_script.specs.Laws.{MadePlaceFew}
use Rattle.generated_script.proofs.Written.{all_pass, is_plain}
use Rattle.generated_script.proofs.Spelled.{all_both, pass_weaker, plain_ascii}
use Rattle.generated_script.proofs.MadeScript.{ascii_utf8, names_plain}
use Rattle.generated_script.proofs.FewPlaced.{format_few}

-- a plain string is text
quoted_utf8 : (text : List ℕ) → all_pass is_plain text ≡ true → IsUtf8 (quoted text)
quoted_utf8 text plain = ascii_utf8 (quoted text) (all_both is_ascii text (34 ∷ []) (pass_weaker is_plain is_ascii plain_ascii text plain) refl)

module _ (options : OptionSet) (around : Surroundings) where
  plain_few : (i most : ℕ) → IsMostGated options around (plain_call i) most → most ≤ 1000
  plain_few i most (inl is) = omega (arith, is.1)
  plain_few i most (inr is) = omega (arith, format_few around i (codes "p{}q") (i ∷ []) most (quoted_utf8 (codes "p{}q") refl) is.1)

  options_few : (i most : ℕ) → IsMostGated options around (options_call i) most → most ≤ 1000
  options_few i most (inl is) = omega (arith, is.1)
  options_few i most (inr is) = omega (arith, format_few around i (codes "{0:>5}{0:x}{1:?}") (i ∷ i ∷ []) most (quoted_utf8 (codes "{0:>5}{0:x}{1:?}") refl) is.1)

  braces_few : (i most : ℕ) → IsMostGated options around (braces_call i) most → most ≤ 1000
  braces_few i most (inl is) = omega (arith, is.1)
  braces_few i most (inr is) = omega (arith, format_few around i (codes "{{}}") [] most (quoted_utf8 (codes "{{}}") refl) is.1)

  assembly_few : (i most : ℕ) → IsMostGated options around (assembly_call i) most → most ≤ 1000
  assembly_few i most (inl is) = omega (arith, is.1)
  assembly_few i most (inr is) = omega (arith, is.1)

  by_turn : (first second third : Bool) (i most : ℕ) → IsMostGated options around (if first then plain_call i else (if second then options_call i else (if third then braces_call i else assembly_call i))) most → most ≤ 1000
  by_turn true second third i most is = plain_few i most is
  by_turn false true third i most is = options_few i most is
  by_turn false false true i most is = braces_few i most is
  by_turn false false false i most is = assembly_few i most is

  -- each call but the last places at most a thousand
  call_few : (i most : ℕ) → IsMostGated options around (call_at i) most → most ≤ 1000
  call_few i most is = by_turn (i % 4 == 0) (i % 4 == 1) (i % 4 == 2) i most is

  calls_few : (first count bound : ℕ) (rest : List GatedCall) (most : ℕ) → ((other : ℕ) → AreMost options around rest other → other ≤ bound)
      → AreMost options around (map call_at (range_with_len first count) ++ rest) most → most ≤ count * 1000 + bound
  calls_few first zero bound rest most few are = omega (arith, few most are)
  calls_few first (suc count) bound rest most few are =
      omega (arith, are.4, call_few first are.0 are.2, calls_few (first + 1) count bound rest are.1 few are.3)

  -- and the last one few for each of its names
  last_few : (number names most : ℕ) → names ≤ 60000 → IsMostGated options around (last_call number names) most → most ≤ 9000000
  last_few number names most few (inl is) = omega (arith, is.1)
  last_few number names most few (inr is) =
      omega (arith, format_few around number (names_text names) [] most (quoted_utf8 (names_text names) (names_plain 0 names (omega (arith, few)))) is.1, length_names names few)

  all_few : (count names most : ℕ) → count ≤ 1000 → names ≤ 60000 → AreMost options around (map call_at (range_with_len 0 count) ++ last_call count names ∷ []) most → most ≤ 10000000
  all_few count names most few also are =
      omega (arith, few, calls_few 0 count 9000000 (last_call count names ∷ []) most (λ other is. omega (arith, is.4, is.3, last_few count names is.0 also is.2)) are)

pub made_place_few : MadePlaceFew
made_place_few n options around most are = all_few options around (min n 1000) (min n 60000) most (omega arith) (omega arith) are
