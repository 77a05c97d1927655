-- The decoder reads a chunk as its bytes, in front of whatever it reads behind them.
use Rattle.std.specs.Prelude.{◌≡◌, ℕ, ◌+◌, ◌*◌, ◌/◌, ◌%◌, ◌<◌, Bool, true, false, cond, nat_eq, nat_lt, List, [], ◌∷◌, ◌++◌, length, Option, refl}
use Rattle.std.specs.Str.{encode_utf8_all}
use Rattle.std.specs.Char.{encode_utf8}
use Rattle.std.proofs.Common.{◌∙◌, ap, ap₂, arith, length-append}
use Rattle.std.proofs.lemmas.Bool.Decides.{nat_tests}
use Rattle.std.proofs.lemmas.Str.{length-encode}
use Rattle.code_meaning.specs.Template.{TemplateItem, ByteItem, with_item, with_bytes, items_of}
use Rattle.template_bytes.specs.Chunks.{total, chunk_bytes}
use Rattle.template_bytes.specs.Reading.{with_all}

-- characters have as many bytes as their sizes say
pub length_total : (cs : List ℕ) → length (encode_utf8_all cs) ≡ total cs
length_total [] = refl
length_total (c ∷ cs) = length-append (encode_utf8 c) (encode_utf8_all cs) ∙ ap₂ (λ m n. m + n) (length-encode c) (length_total cs)

-- bytes that were read already are passed by
skipped : (next : ℕ) (bytes rest : List ℕ) → items_of next (length bytes) (bytes ++ rest) ≡ items_of next 0 rest
skipped next [] [] = refl
skipped next [] (b ∷ rest) = refl
skipped next (b ∷ bytes) rest = skipped next bytes rest

-- the bytes of a literal stand in front of the items behind them
with_bytes-all : (bytes rest : List ℕ) (more : Option (List TemplateItem)) → with_bytes (length bytes) (bytes ++ rest) more ≡ with_all bytes more
with_bytes-all [] rest more = refl
with_bytes-all (b ∷ bytes) rest more = ap (with_item (ByteItem b)) (with_bytes-all bytes rest more)

-- a literal of so many bytes, whichever way its size was written
read_on : (next : ℕ) (chunk rest : List ℕ) → with_bytes (length chunk) (chunk ++ rest) (items_of next (length chunk) (chunk ++ rest)) ≡ with_all chunk (items_of next 0 rest)
read_on next chunk rest = rw (skipped next chunk rest) (with_bytes-all chunk rest (items_of next 0 rest))

-- a size in one byte
short_read : (next size : ℕ) (bytes : List ℕ) → nat_eq size 0 ≡ false → nat_lt size 128 ≡ true → items_of next 0 (size ∷ bytes) ≡ with_bytes size bytes (items_of next size bytes)
short_read next size bytes not_end is_short = rw (not_end, is_short) refl

-- a size in two bytes
long_read : (next low high size : ℕ) (bytes : List ℕ) → low + 256 * high ≡ size → items_of next 0 (128 ∷ low ∷ high ∷ bytes) ≡ with_bytes size bytes (items_of next size bytes)
long_read next low high size bytes e = rw e refl

-- a literal of some bytes is read as its bytes
read_literal : (next : ℕ) (chunk rest : List ℕ) → 0 < length chunk → items_of next 0 (chunk_bytes chunk ++ rest) ≡ with_all chunk (items_of next 0 rest)
read_literal next chunk rest some = at_size (nat_lt (length chunk) 128) refl
  where
    at_size : (is_short : Bool) → nat_lt (length chunk) 128 ≡ is_short
        → items_of next 0 ((cond (nat_lt (length chunk) 128) (length chunk ∷ []) (128 ∷ length chunk % 256 ∷ length chunk / 256 ∷ []) ++ chunk) ++ rest) ≡ with_all chunk (items_of next 0 rest)
    at_size true e = rw e (short_read next (length chunk) (chunk ++ rest) (grind (arith, nat_tests)) e ∙ read_on next chunk rest)
    at_size false e = rw e (long_read next _ _ (length chunk) (chunk ++ rest) (omega arith) ∙ read_on next chunk rest)

-- a chunk of some characters is read as their bytes
pub read_chunk : (next : ℕ) (cs rest : List ℕ) → 0 < total cs → items_of next 0 (chunk_bytes (encode_utf8_all cs) ++ rest) ≡ with_all (encode_utf8_all cs) (items_of next 0 rest)
read_chunk next cs rest some = read_literal next (encode_utf8_all cs) rest (omega (arith, length_total cs))
