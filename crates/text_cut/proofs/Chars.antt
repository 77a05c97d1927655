-- The bytes behind a character, and the bytes in front of the end of a text.
use Rattle.std.proofs.Common.{◌≡◌, ℕ, ◌+◌, ◌-◌, ◌≤◌, List, ◌++◌, length, take, ap, ◌∙◌, sym, subst, length-append, arith}
use Rattle.std.specs.Char.{len_utf8}
use Rattle.std.specs.Str.{IsUtf8, IsCharBoundary, chars}
use Rattle.std.proofs.Math.Utf8.{encode, encodes}
use Rattle.std.proofs.lemmas.List.{take_at}
use Rattle.std.proofs.lemmas.Str.{encodes-chars, chars-append, length-encode, IsCharBoundary-at_seam}
use Rattle.text_cut.proofs.Sizes.{front_bytes}

-- the bytes of a character and of what follows it
pub size_is : (bs rest : List ℕ) (c : ℕ) → bs ≡ encode c ++ rest → len_utf8 c + length rest ≡ length bs
size_is bs rest c e = omega (arith, ap length e, length-append (encode c) rest, length-encode c)

-- the bytes in front of the end of a text
pub before_bytes : (text later front : List ℕ) → IsUtf8 text → IsUtf8 later → chars text ≡ front ++ chars later → text ≡ encodes front ++ later
before_bytes text later front u v e = front_bytes text front (chars later) u e ∙ ap (λ l. encodes front ++ l) (encodes-chars later v)

-- the end of a text is no longer than the text
pub later_fits : (text later front : List ℕ) → IsUtf8 text → IsUtf8 later → chars text ≡ front ++ chars later → length later ≤ length text
later_fits text later front u v e = omega (arith, ap length (before_bytes text later front u v e), length-append (encodes front) later)

before_size : (text later front : List ℕ) → text ≡ front ++ later → length text - length later ≡ length front
before_size text later front e = omega (arith, ap length e, length-append front later)

-- a text may be cut in front of its end
pub cut_before : (text later front : List ℕ) → IsUtf8 text → IsUtf8 later → chars text ≡ front ++ chars later → IsCharBoundary text (length text - length later)
cut_before text later front u v e =
    let b = before_bytes text later front u v e in
    subst (λ n. IsCharBoundary text n) (sym (before_size text later (encodes front) b)) (IsCharBoundary-at_seam text (encodes front) later b v)

-- what stands in front of the end of a text
pub before_is : (text later front part : List ℕ) → IsUtf8 text → IsUtf8 later → IsUtf8 part → chars text ≡ front ++ chars later → part ≡ take (length text - length later) text → chars text ≡ chars part ++ chars later
before_is text later front part u v w e p =
    let b = before_bytes text later front u v e in
    let t : take (length text - length later) text ≡ encodes front = ap (λ l. take (length text - length later) l) b ∙ take_at (encodes front) later (length text - length later) (sym (before_size text later (encodes front) b)) in
    let whole : text ≡ part ++ later = b ∙ ap (λ l. l ++ later) (sym (p ∙ t)) in
    ap chars whole ∙ chars-append part later w
