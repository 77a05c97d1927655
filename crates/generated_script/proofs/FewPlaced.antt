-- How many expressions a format call places at most, by the length of its string.
use Rattle.std.proofs.Common.{◌≡◌, ℕ, zero, suc, ◌+◌, ◌-◌, ◌*◌, ◌≤◌, Bool, true, false, cond, if◌then◌else◌, List, [], ◌∷◌, ◌++◌, length, map, Option, Some, None, refl, ap, sym, subst, inl, inr, arith, length-append}
use Rattle.std.specs.Map.{keys_of}
use Rattle.std.specs.Str.{IsUtf8, chars, chars_after, continuation_len, lead_bits}
use Rattle.std.proofs.lemmas.List.{length-map}
use Rattle.std.proofs.lemmas.Option.{same_Some}
use Rattle.either.specs.declared.Either.{Either}
use Rattle.either.specs.declared.Either.TheVariants.{Left, Right}
use Rattle.text_cut.specs.Reading.{Spelled, texts, AreSpelled}
use Rattle.sym_core.specs.declared.name.Name.{Name}
use Rattle.syn_trees.specs.Literal.{HasValue}
use Rattle.syn_trees.proofs.Lengths.{value_short}
use Rattle.fmt_parse.specs.declared.piece.Piece.{Piece}
use Rattle.fmt_parse.specs.declared.piece.Piece.TheVariants.{Lit, NextArgument}
use Rattle.fmt_parse.specs.Pieces.{IsPiece, ArePieces}
use Rattle.fmt_parse.proofs.Pieces.{pieces_read}
use Rattle.hir_fmt.specs.declared.format_args.FormatArgsPiece.{FormatArgsPiece}
use Rattle.hir_fmt.specs.declared.format_args.FormatArgsPiece.TheVariants.{Placeholder}
use Rattle.hir_fmt.specs.References.{Source, text_in, Counted, asked, value_of, precision_of, width_of, references_of}
use Rattle.hir_fmt.specs.Referred.{name_wanted, names_wanted, is_among, new_names, captured}
use Rattle.hir_fmt.specs.Template.{literal_of, placeholder_of, template_from}
use Rattle.code_meaning.specs.Write.{Count, NoCount, Is, Of, Write, Byte}
use Rattle.template_bytes.specs.Canonical as canonical
use Rattle.template_bytes.specs.Canonical.{canonical_pieces, reference_of, asked_of}
use Rattle.template_bytes.specs.Pairs.{Pair, is_same_pair, count_uses, uses, without, distinct}
use Rattle.format_code.specs.FormatCall.{Surroundings, plain, names_from, place_in, pieces_in}
use Rattle.hir_lower.specs.Lowered.{IsMost}
use Rattle.generated_script.specs.Made.{quoted, argument, format_of}

-- a text has no more characters than bytes
chars_few_after : (more c : ℕ) (bytes : List ℕ) → length (chars_after more c bytes) ≤ suc (length bytes)
chars_few_after zero c [] = omega arith
chars_few_after zero c (b ∷ bytes) = omega (arith, chars_few_after (continuation_len b) (lead_bits b) bytes)
chars_few_after (suc more) c [] = omega arith
chars_few_after (suc more) c (b ∷ bytes) = omega (arith, chars_few_after more (c * 64 + (b - 128)) bytes)

chars_few : (bytes : List ℕ) → length (chars bytes) ≤ length bytes
unfolding chars
chars_few [] = omega arith
chars_few (b ∷ bytes) = chars_few_after (continuation_len b) (lead_bits b) bytes

-- nor more pieces than characters, since none is empty
spelled_few : (front ss : List (Spelled Piece)) (rest : List ℕ) → AreSpelled IsPiece front ss rest → length ss ≤ length (texts ss)
spelled_few front [] rest are = omega arith
spelled_few front (s ∷ ss) rest are =
    omega (arith, length-append s.text (texts ss), pieces_read.some front s.text s.item (texts ss ++ rest) are.0, spelled_few (front ++ s ∷ []) ss rest are.1)

pieces_few : (text : List ℕ) (pieces : List Piece) → ArePieces text pieces → length pieces ≤ length text
pieces_few text pieces are =
    omega (arith, ap length are.are, length-map are.pieces (λ (s : Spelled Piece). s.item), spelled_few [] are.pieces [] are.reading.are, ap length are.reading.there, length-append (texts are.pieces) [], chars_few text)

-- a piece wants at most three names
wanted_few : (wanted : Either ℕ Name) → length (name_wanted wanted) ≤ 1
wanted_few (Left n) = omega arith
wanted_few (Right name) = omega arith

width_few : (width : Counted) (source : Source) (pieces : List Piece) → length (names_wanted (asked width ++ references_of source pieces)) ≤ 1 + length (names_wanted (references_of source pieces))
width_few None source pieces = omega arith
width_few (Some (Left n)) source pieces = omega arith
width_few (Some (Right r)) source pieces = omega (arith, length-append (name_wanted r.wanted) (names_wanted (references_of source pieces)), wanted_few r.wanted)

counts_few : (precision width : Counted) (source : Source) (pieces : List Piece) → length (names_wanted ((asked precision ++ asked width) ++ references_of source pieces)) ≤ 2 + length (names_wanted (references_of source pieces))
counts_few None width source pieces = omega (arith, width_few width source pieces)
counts_few (Some (Left n)) width source pieces = omega (arith, width_few width source pieces)
counts_few (Some (Right r)) width source pieces =
    omega (arith, length-append (name_wanted r.wanted) (names_wanted (asked width ++ references_of source pieces)), wanted_few r.wanted, width_few width source pieces)

names_few : (source : Source) (pieces : List Piece) → length (names_wanted (references_of source pieces)) ≤ 3 * length pieces
names_few source [] = omega arith
names_few source (Lit r ∷ pieces) = omega (arith, names_few source pieces)
names_few source (NextArgument a ∷ pieces) =
    omega (
      arith,
      length-append (name_wanted (value_of source a).wanted) (names_wanted ((asked (precision_of source a) ++ asked (width_of source a)) ++ references_of source pieces)),
      wanted_few (value_of source a).wanted,
      counts_few (precision_of source a) (width_of source a) source pieces,
      names_few source pieces,
    )

-- and captures no more
new_few : (known names : List Name) → length (new_names known names) ≤ length names
new_few known [] = omega arith
new_few known (name ∷ names) = by_test (is_among known name) (new_few known names) (new_few (known ++ name ∷ []) names)
  where
    by_test : (t : Bool) → length (new_names known names) ≤ length names → length (new_names (known ++ name ∷ []) names) ≤ length names
        → length (if t then new_names known names else (name ∷ new_names (known ++ name ∷ []) names)) ≤ suc (length names)
    by_test true few also = omega (arith, few)
    by_test false few also = omega (arith, also)

captured_few : (known : List Name) (source : Source) (pieces : List Piece) → length (captured true known (references_of source pieces)) ≤ 3 * length pieces
captured_few known source pieces = omega (arith, new_few known (names_wanted (references_of source pieces)), names_few source pieces)

-- nor does it have more pairs
bytes_unused : (text : List ℕ) (rest : List (Write canonical.Reference)) → uses (map Byte text ++ rest) ≡ uses rest
bytes_unused [] rest = refl
bytes_unused (c ∷ text) rest = bytes_unused text rest

literal_unused : (begun : List ℕ) (rest : List FormatArgsPiece) → uses (canonical_pieces (literal_of begun ++ rest)) ≡ uses (canonical_pieces rest)
literal_unused [] rest = refl
literal_unused (c ∷ begun) rest = bytes_unused (c ∷ begun) (canonical_pieces rest)

last_unused : (begun : List ℕ) → length (uses (canonical_pieces (literal_of begun))) ≤ 0
last_unused [] = omega arith
last_unused (c ∷ begun) = omega (arith, ap length (bytes_unused (c ∷ begun) []))

count_few : (count : Count canonical.Reference) → length (count_uses count) ≤ 1
count_few NoCount = omega arith
count_few (Is n) = omega arith
count_few (Of r) = omega arith

uses_few : (source : Source) (begun : List ℕ) (pieces : List Piece) (find : Either ℕ Name → Option ℕ) → length (uses (canonical_pieces (template_from source begun pieces find))) ≤ 3 * length pieces
uses_few source begun [] find = last_unused begun
uses_few source begun (Lit r ∷ pieces) find = omega (arith, uses_few source (begun ++ text_in source r) pieces find)
uses_few source begun (NextArgument a ∷ pieces) find =
    let asks = asked_of (placeholder_of source a find) in
    let rest = uses (canonical_pieces (template_from source [] pieces find)) in
    omega (
      arith,
      ap length (literal_unused begun (Placeholder (placeholder_of source a find) ∷ template_from source [] pieces find)),
      length-append (count_uses asks.width ++ count_uses asks.precision) rest,
      length-append (count_uses asks.width) (count_uses asks.precision),
      count_few asks.width,
      count_few asks.precision,
      uses_few source [] pieces find,
    )

without_few : (p : Pair) (pairs : List Pair) → length (without p pairs) ≤ length pairs
without_few p [] = omega arith
without_few p (q ∷ pairs) = by_test (is_same_pair p q) (without_few p pairs)
  where
    by_test : (t : Bool) → length (without p pairs) ≤ length pairs → length (cond t (without p pairs) (q ∷ without p pairs)) ≤ suc (length pairs)
    by_test true few = omega (arith, few)
    by_test false few = omega (arith, few)

distinct_few : (pairs : List Pair) → length (distinct pairs) ≤ length pairs
distinct_few [] = omega arith
distinct_few (p ∷ pairs) = omega (arith, without_few p (distinct pairs), distinct_few pairs)

-- a format call places at most so many expressions
pub format_few : (around : Surroundings) (number : ℕ) (text leaves : List ℕ) (most : ℕ) → IsUtf8 (quoted text) → IsMost around (format_of number text leaves) most → most ≤ 18 * length text + 2 * length leaves + 9
format_few around number text leaves most utf8 (inl is) =
    let call = format_of number text leaves in
    let value : HasValue (quoted text) is.0 = subst (λ token. HasValue token is.0) (sym (same_Some (quoted text) is.2.token is.2.reached)) is.2.format.value in
    omega (
      arith,
      is.3,
      length-map leaves (argument number),
      value_short (quoted text) is.0 utf8 value,
      length-append text (34 ∷ []),
      pieces_few is.0 is.1 is.2.format.are,
      captured_few (keys_of (names_from 0 call.args)) (plain is.0) is.1,
      distinct_few (uses (pieces_in call is.0 is.1)),
      uses_few (plain is.0) [] is.1 (place_in call is.0 is.1),
    )
format_few around number text leaves most utf8 (inr is) = omega (arith, is.1, length-map leaves (argument number))
