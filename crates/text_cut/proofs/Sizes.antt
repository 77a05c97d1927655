-- The bytes of a text: of two texts in a row, and where its UTF-8 may be cut.
use Rattle.std.proofs.Common.{◌≡◌, ℕ, ◌+◌, ◌<◌, List, [], ◌∷◌, ◌++◌, length, take, drop, true, refl, ap, ◌∙◌, sym, subst, length-append, arith, encode_utf8_all}
use Rattle.std.specs.Str.{IsUtf8, IsCharBoundary, chars}
use Rattle.std.proofs.Math.Utf8.{encode, encodes, scalars}
use Rattle.std.proofs.lemmas.Bool.{and_parts}
use Rattle.std.proofs.lemmas.List.{drop_at, take_at}
use Rattle.std.proofs.lemmas.Str.{encodes-chars, encodes-append, length-encode, IsCharBoundary-at_seam, scalars-chars, len_utf8_bounds}
use Rattle.text_cut.specs.Runs.{size}

-- the bytes of two texts in a row
pub size_append : (xs ys : List ℕ) → size (xs ++ ys) ≡ size xs + size ys
size_append [] ys = omega arith
size_append (x ∷ xs) ys = omega (arith, size_append xs ys)

-- a text that is not empty takes bytes
pub size_some : (cs : List ℕ) → 0 < length cs → 0 < size cs
size_some [] h = h
size_some (c ∷ cs) h = omega (arith, len_utf8_bounds c)

-- the bytes of a text are those of its spelling
pub size_bytes : (cs : List ℕ) → length (encode_utf8_all cs) ≡ size cs
size_bytes [] = refl
size_bytes (c ∷ cs) = omega (arith, length-append (encode c) (encodes cs), length-encode c, size_bytes cs)

-- the bytes of a text and of what follows it
pub front_bytes : (text front rest : List ℕ) → IsUtf8 text → chars text ≡ front ++ rest → text ≡ encode_utf8_all front ++ encode_utf8_all rest
front_bytes text front rest u e = sym (encodes-chars text u) ∙ (ap encodes e ∙ encodes-append front rest)

-- the bytes of a part of a text
pub taken_bytes : (text front xs rest : List ℕ) → IsUtf8 text → chars text ≡ front ++ (xs ++ rest) → take (size xs) (drop (size front) text) ≡ encode_utf8_all xs
taken_bytes text front xs rest u e =
    let whole : text ≡ encodes front ++ (encodes xs ++ encodes rest) = front_bytes text front (xs ++ rest) u e ∙ ap (λ l. encodes front ++ l) (encodes-append xs rest) in
    ap (λ l. take (size xs) (drop (size front) l)) whole
    ∙ (ap (λ l. take (size xs) l) (drop_at (encodes front) (encodes xs ++ encodes rest) (size front) (size_bytes front))
    ∙ take_at (encodes xs) (encodes rest) (size xs) (size_bytes xs))

-- what follows some characters is UTF-8
scalars_behind : (front rest : List ℕ) → scalars (front ++ rest) ≡ true → scalars rest ≡ true
scalars_behind [] rest e = e
scalars_behind (c ∷ front) rest e = scalars_behind front rest (and_parts _ _ e).1

-- a text may be cut behind some of its characters
pub cut_at : (text front rest : List ℕ) → IsUtf8 text → chars text ≡ front ++ rest → IsCharBoundary text (size front)
cut_at text front rest u e =
    let there : IsUtf8 (encodes rest) = (rest, (scalars_behind front rest (subst (λ l. scalars l ≡ true) e (scalars-chars text u)), refl)) in
    subst (λ n. IsCharBoundary text n) (size_bytes front) (IsCharBoundary-at_seam text (encodes front) (encodes rest) (front_bytes text front rest u e) there)
