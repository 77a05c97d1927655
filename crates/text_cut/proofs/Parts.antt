-- What stands in a text is a part of it.
use Rattle.std.proofs.Common.{◌≡◌, ℕ, ◌+◌, List, ◌++◌, length, ap, ◌∙◌, sym, subst, append_assoc, arith}
use Rattle.std.specs.Str.{IsUtf8, IsCharBoundary, chars}
use Rattle.std.proofs.lemmas.Str.{encodes-chars}
use Rattle.text_cut.specs.Runs.{size}
use Rattle.text_cut.specs.Part.{IsPart}
use Rattle.text_cut.proofs.Sizes.{size_append, size_bytes, cut_at}

-- the bytes of a text's characters are its own
pub chars_size : (text : List ℕ) → IsUtf8 text → size (chars text) ≡ length text
chars_size text utf8 = sym (size_bytes (chars text)) ∙ ap length (encodes-chars text utf8)

-- characters behind others are a part
pub part_behind : (text front part rest : List ℕ) → IsUtf8 text → chars text ≡ front ++ (part ++ rest) → IsPart text (size front) (size front + size part)
part_behind text front part rest utf8 there = record {
  ordered = omega arith;
  within = omega (arith, chars_size text utf8, ap size there, size_append front (part ++ rest), size_append part rest);
  begins = cut_at text front (part ++ rest) utf8 there;
  ends = subst (λ n. IsCharBoundary text n) (size_append front part) (cut_at text (front ++ part) rest utf8 (there ∙ sym (append_assoc front part rest)));
}
