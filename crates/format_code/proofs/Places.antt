-- What references refer to does not depend on spans, and lies among the arguments.
use Rattle.std.specs.Prelude.{◌≡◌, ℕ, ◌+◌, ◌<◌, ◌≤◌, Bool, true, false, cond, if◌then◌else◌, nat_lt, List, [], ◌∷◌, ◌++◌, length, map, Option, Some, None, Ok, Err, refl}
use Rattle.std.specs.Map.{lookup}
use Rattle.std.proofs.Common.{Result, Ok, Err, sym, ◌∙◌, ap, ap₂, subst, arith}
use Rattle.std.proofs.lemmas.Bool.Decides.{nat_tests}
use Rattle.std.proofs.lemmas.Option.{same_Some}
use Rattle.either.specs.declared.Either.{Either}
use Rattle.either.specs.declared.Either.TheVariants.{Left, Right}
use Rattle.sym_core.specs.declared.name.Name.{Name}
use Rattle.sym_core.specs.declared.name.Name.TheVariants.{Text}
use Rattle.sym_core.specs.declared.text_range.TextRange.{TextRange}
use Rattle.syn_trees.specs.declared.format_call.FormatCall.{FormatCall}
use Rattle.syn_trees.specs.declared.format_call.FormatArgSyntax.{FormatArgSyntax}
use Rattle.fmt_parse.specs.declared.piece.Argument.{Argument}
use Rattle.fmt_parse.specs.declared.piece.Piece.{Piece}
use Rattle.fmt_parse.specs.declared.piece.Piece.TheVariants.{Lit, NextArgument}
use Rattle.fmt_parse.specs.declared.piece.Position.{Position}
use Rattle.fmt_parse.specs.declared.piece.Position.TheVariants as position
use Rattle.fmt_parse.specs.declared.piece.Count.{Count}
use Rattle.fmt_parse.specs.declared.piece.Count.TheVariants as count
use Rattle.hir_fmt.specs.References.{Source, text_in, name_in, of_position, of_count, value_of, precision_of, width_of, asked, references_of}
use Rattle.hir_fmt.specs.Referred.{names_wanted, is_among, new_names, captured, placed, refers, places_found}
use Rattle.hir_fmt.specs.Orphans.{resolved, resolved_count, resolved_all}
use Rattle.hir_fmt.specs.Firsts.{same_name}
use Rattle.hir_fmt.specs.Template.{placeholder_of, found_or, position_of, count_of, literal_of, template_from, template_of}
use Rattle.hir_fmt.specs.declared.format_args.FormatArgsPiece.{FormatArgsPiece}
use Rattle.hir_fmt.specs.declared.format_args.FormatArgsPiece.TheVariants.{Literal, Placeholder}
use Rattle.hir_fmt.specs.declared.format_args.FormatCount.{FormatCount}
use Rattle.hir_fmt.specs.declared.format_args.FormatCount.TheVariants as format_count
use Rattle.hir_fmt.proofs.Marks.{resolved_template}
use Rattle.hir_fmt.proofs.Names.{names_wanted_append}
use Rattle.code_meaning.specs.Write.{Count as WriteCount, NoCount, Is, Of, count_of as write_count, Write, Byte, Put}
use Rattle.template_bytes.specs.Canonical.{Reference, found_place, reference_of, asked_of, canonical_pieces}
use Rattle.template_bytes.specs.Canonical as canonical
use Rattle.format_code.specs.Code.{IsCountBelow, AreBelow, RefersWithin, CountRefersWithin, ReferWithin, write_with}
use Rattle.format_code.specs.FormatCall.{plain, name_at, names_from, captured_in, place_in}

-- Spans decide nothing

value_names : (source : Source) (p : Position) (span other : Option TextRange) → names_wanted (of_position source p span ∷ []) ≡ names_wanted (of_position (plain source.text) p other ∷ [])
value_names source (position.ImplicitlyIs n) span other = refl
value_names source (position.Is n) span other = refl
value_names source (position.Named r) span other = refl

count_names : (source : Source) (c : Count) (span other : Option TextRange) → names_wanted (asked (of_count source c span)) ≡ names_wanted (asked (of_count (plain source.text) c other))
count_names source (count.Is n) span other = refl
count_names source (count.IsName r) span other = refl
count_names source (count.IsParam n) span other = refl
count_names source (count.IsStar n) span other = refl
count_names source count.Implied span other = refl

-- the names that a text wants
pub names_same : (source : Source) (pieces : List Piece) → names_wanted (references_of source pieces) ≡ names_wanted (references_of (plain source.text) pieces)
names_same source [] = refl
names_same source (Lit r ∷ pieces) = names_same source pieces
names_same source (NextArgument a ∷ pieces) =
    let text = plain source.text in
    names_wanted_append (value_of source a ∷ []) ((asked (precision_of source a) ++ asked (width_of source a)) ++ references_of source pieces)
    ∙ ap₂ (λ xs ys. xs ++ ys) (value_names source a.position _ _)
    (names_wanted_append (asked (precision_of source a) ++ asked (width_of source a)) (references_of source pieces)
    ∙ ap₂ (λ xs ys. xs ++ ys)
    (names_wanted_append (asked (precision_of source a)) (asked (width_of source a))
    ∙ ap₂ (λ xs ys. xs ++ ys) (count_names source a.format.precision _ _) (count_names source a.format.width _ _)
    ∙ sym (names_wanted_append (asked (precision_of text a)) (asked (width_of text a))))
    (names_same source pieces)
    ∙ sym (names_wanted_append (asked (precision_of text a) ++ asked (width_of text a)) (references_of text pieces)))
    ∙ sym (names_wanted_append (value_of text a ∷ []) ((asked (precision_of text a) ++ asked (width_of text a)) ++ references_of text pieces))

module _ (find : Either ℕ Name → Option ℕ) where
  value_same : (source : Source) (p : Position) (span other : Option TextRange) → reference_of (position_of (of_position source p span) find) ≡ reference_of (position_of (of_position (plain source.text) p other) find)
  value_same source (position.ImplicitlyIs n) span other = refl
  value_same source (position.Is n) span other = refl
  value_same source (position.Named r) span other = refl

  count_same : (source : Source) (c : Count) (span other : Option TextRange) → canonical.count_of (count_of (of_count source c span) find) ≡ canonical.count_of (count_of (of_count (plain source.text) c other) find)
  count_same source (count.Is n) span other = refl
  count_same source (count.IsName r) span other = refl
  count_same source (count.IsParam n) span other = refl
  count_same source (count.IsStar n) span other = refl
  count_same source count.Implied span other = refl

  -- the canonical piece of a placeholder
  abbrev put_of : Source → Argument → Write Reference
  put_of source a = Put (reference_of (placeholder_of source a find).argument) (asked_of (placeholder_of source a find))

  put_same : (source : Source) (a : Argument) → put_of source a ≡ put_of (plain source.text) a
  put_same source a =
      let asked_with = asked_of (placeholder_of source a find) in
      ap (λ (r : Reference). Put r asked_with) (value_same source a.position _ _)
      ∙ ap₂ (λ width precision. Put (reference_of (placeholder_of (plain source.text) a find).argument) (record { by = asked_with.by; options = asked_with.options; width = width; precision = precision }))
      (count_same source a.format.width _ _) (count_same source a.format.precision _ _)

  -- a literal that was begun, in front of a placeholder
  in_front : (begun : List ℕ) (source : Source) (a : Argument) (rest : List FormatArgsPiece)
      → canonical_pieces (literal_of begun ++ Placeholder (placeholder_of source a find) ∷ rest) ≡ map Byte begun ++ put_of source a ∷ canonical_pieces rest
  in_front [] source a rest = refl
  in_front (c ∷ cs) source a rest = refl

  template_same : (source : Source) (begun : List ℕ) (pieces : List Piece) → canonical_pieces (template_from source begun pieces find) ≡ canonical_pieces (template_from (plain source.text) begun pieces find)
  template_same source begun [] = refl
  template_same source begun (Lit r ∷ pieces) = template_same source (begun ++ text_in source r) pieces
  template_same source begun (NextArgument a ∷ pieces) =
      in_front begun source a _
      ∙ ap₂ (λ put rest. map Byte begun ++ put ∷ rest) (put_same source a) (template_same source [] pieces)
      ∙ sym (in_front begun (plain source.text) a _)

  -- what a text asks for
  pub pieces_same : (source : Source) (pieces : List Piece) → canonical_pieces (template_of source pieces find) ≡ canonical_pieces (template_of (plain source.text) pieces find)
  pieces_same source pieces = template_same source [] pieces

-- The places that are referred to

-- of a reference, of a count and of pieces: in a placeholder the value, then the precision, then the width
abbrev place_list : Reference → List ℕ
place_list None = []
place_list (Some place) = place ∷ []

abbrev count_list : WriteCount Reference → List ℕ
count_list NoCount = []
count_list (Is n) = []
count_list (Of r) = place_list r

abbrev places_of : List (Write Reference) → List ℕ
places_of [] = []
places_of (Byte b ∷ pieces) = places_of pieces
places_of (Put r asked ∷ pieces) = (place_list r ++ (count_list asked.precision ++ count_list asked.width)) ++ places_of pieces

places_behind : (bytes : List ℕ) (pieces : List (Write Reference)) → places_of (map Byte bytes ++ pieces) ≡ places_of pieces
places_behind [] pieces = refl
places_behind (b ∷ bytes) pieces = places_behind bytes pieces

found_list : (index : Result ℕ (Either ℕ Name)) → resolved index ≡ place_list (found_place index)
found_list (Ok place) = refl
found_list (Err wanted) = refl

found_count : (c : Option FormatCount) → resolved_count c ≡ count_list (canonical.count_of c)
found_count None = refl
found_count (Some (format_count.Literal n)) = refl
found_count (Some (format_count.Argument position)) = found_list position.index

resolved_places : (template : List FormatArgsPiece) → resolved_all template ≡ places_of (canonical_pieces template)
resolved_places [] = refl
resolved_places (Literal text ∷ template) = resolved_places template ∙ sym (places_behind text (canonical_pieces template))
resolved_places (Placeholder p ∷ template) =
    ap₂ (λ xs ys. xs ++ ys)
    (ap₂ (λ xs ys. xs ++ ys) (found_list p.argument.index) (ap₂ (λ xs ys. xs ++ ys) (found_count p.format_options.precision) (found_count p.format_options.width)))
    (resolved_places template)

-- the places of the arguments that a text refers to
pub places_same : (find : Either ℕ Name → Option ℕ) (source : Source) (pieces : List Piece) → places_found find (references_of source pieces) ≡ places_found find (references_of (plain source.text) pieces)
places_same find source pieces =
    sym (resolved_template source pieces find)
    ∙ resolved_places (template_of source pieces find) ∙ ap places_of (pieces_same find source pieces) ∙ sym (resolved_places (template_of (plain source.text) pieces find))
    ∙ resolved_template (plain source.text) pieces find

-- Names that a text wants are texts

abbrev pub IsText : Name → Type 0
IsText (Text text) = Unit {0}
IsText _ = ⊥

abbrev pub AreTexts : List Name → Type 0
AreTexts [] = Unit {0}
AreTexts (name ∷ names) = IsText name × AreTexts names

texts_both : (xs ys : List Name) → AreTexts xs → AreTexts ys → AreTexts (xs ++ ys)
texts_both [] ys are more = more
texts_both (x ∷ xs) ys are more = (are.0, texts_both xs ys are.1 more)

value_text : (source : Source) (p : Position) (span : Option TextRange) → AreTexts (names_wanted (of_position source p span ∷ []))
value_text source (position.ImplicitlyIs n) span = tt
value_text source (position.Is n) span = tt
value_text source (position.Named r) span = (tt, tt)

count_text : (source : Source) (c : Count) (span : Option TextRange) → AreTexts (names_wanted (asked (of_count source c span)))
count_text source (count.Is n) span = tt
count_text source (count.IsName r) span = (tt, tt)
count_text source (count.IsParam n) span = tt
count_text source (count.IsStar n) span = tt
count_text source count.Implied span = tt

wanted_texts : (source : Source) (pieces : List Piece) → AreTexts (names_wanted (references_of source pieces))
wanted_texts source [] = tt
wanted_texts source (Lit r ∷ pieces) = wanted_texts source pieces
wanted_texts source (NextArgument a ∷ pieces) =
    let counts = asked (precision_of source a) ++ asked (width_of source a) in
    subst AreTexts (sym (names_wanted_append (value_of source a ∷ []) (counts ++ references_of source pieces)))
    (texts_both (names_wanted (value_of source a ∷ [])) (names_wanted (counts ++ references_of source pieces)) (value_text source a.position _)
    (subst AreTexts (sym (names_wanted_append counts (references_of source pieces)))
    (texts_both (names_wanted counts) (names_wanted (references_of source pieces))
    (subst AreTexts (sym (names_wanted_append (asked (precision_of source a)) (asked (width_of source a))))
    (texts_both (names_wanted (asked (precision_of source a))) (names_wanted (asked (width_of source a))) (count_text source a.format.precision _) (count_text source a.format.width _)))
    (wanted_texts source pieces))))

new_texts : (known names : List Name) → AreTexts names → AreTexts (new_names known names)
new_texts known [] are = tt
new_texts known (name ∷ names) are = by_test (is_among known name) (new_texts known names are.1) (new_texts (known ++ name ∷ []) names are.1)
  where
    by_test : (t : Bool) → AreTexts (new_names known names) → AreTexts (new_names (known ++ name ∷ []) names) → AreTexts (if t then new_names known names else (name ∷ new_names (known ++ name ∷ []) names))
    by_test true old more = old
    by_test false old more = (are.0, more)

-- the names that a text captures
pub captured_texts : (direct : Bool) (known : List Name) (source : Source) (pieces : List Piece) → AreTexts (captured direct known (references_of source pieces))
captured_texts true known source pieces = new_texts known (names_wanted (references_of source pieces)) (wanted_texts source pieces)
captured_texts false known source pieces = tt

-- Places among the arguments

abbrev pub AreUnder : ℕ → List (Name × ℕ) → Type 0
AreUnder count [] = Unit {0}
AreUnder count (entry ∷ entries) = (entry.1 < count) × AreUnder count entries

pub under_both : (count : ℕ) (xs ys : List (Name × ℕ)) → AreUnder count xs → AreUnder count ys → AreUnder count (xs ++ ys)
under_both count [] ys are more = more
under_both count (x ∷ xs) ys are more = (are.0, under_both count xs ys are.1 more)

lookup_under : (count : ℕ) (test : Name → Bool) (entries : List (Name × ℕ)) (place : ℕ) → AreUnder count entries → lookup test entries ≡ Some place → place < count
lookup_under count test [] place are is = absurd (cc)
lookup_under count test (entry ∷ entries) place are is = by_test (test entry.0) is (lookup_under count test entries place are.1)
  where
    by_test : (t : Bool) → cond t (Some entry.1) (lookup test entries) ≡ Some place → (lookup test entries ≡ Some place → place < count) → place < count
    by_test true e later = subst (λ n. n < count) (same_Some _ _ e) are.0
    by_test false e later = later e

placed_under : (count at : ℕ) (names : List Name) → at + length names ≤ count → AreUnder count (placed at names)
placed_under count at [] fits = tt
placed_under count at (name ∷ names) fits = (omega arith, placed_under count (at + 1) names (omega arith))

name_under : (count at : ℕ) (name : Option (List ℕ)) → at < count → AreUnder count (name_at name at)
name_under count at None below = tt
name_under count at (Some name) below = (below, tt)

names_under : (count at : ℕ) (args : List FormatArgSyntax) → at + length args ≤ count → AreUnder count (names_from at args)
names_under count at [] fits = tt
names_under count at (arg ∷ args) fits = under_both count (name_at arg.name at) (names_from (at + 1) args) (name_under count at arg.name (omega arith)) (names_under count (at + 1) args (omega arith))

-- a finder that leads to places below a count
abbrev pub FindsUnder : ℕ → (Either ℕ Name → Option ℕ) → Type 0
FindsUnder count find = (wanted : Either ℕ Name) (place : ℕ) → find wanted ≡ Some place → place < count

refers_under : (count explicit : ℕ) (names : List (Name × ℕ)) → explicit ≤ count → AreUnder count names → FindsUnder count (refers explicit names)
refers_under count explicit names fits are (Left n) place is = by_test (nat_lt n explicit) refl is
  where
    by_test : (t : Bool) → nat_lt n explicit ≡ t → (if t then Some n else None) ≡ Some place → place < count
    by_test true below e = let same : n ≡ place = same_Some _ _ e in grind (arith, nat_tests)
    by_test false below e = absurd (cc)
refers_under count explicit names fits are (Right name) place is = lookup_under count (same_name name) names place are is

-- the references of a call refer to its arguments
pub place_in_under : (call : FormatCall) (text : List ℕ) (pieces : List Piece) → FindsUnder (length call.args + length (captured_in call text pieces)) (place_in call text pieces)
place_in_under call text pieces =
    let count = length call.args + length (captured_in call text pieces) in
    refers_under count (length call.args) (names_from 0 call.args ++ placed (length call.args) (captured_in call text pieces)) (omega arith)
    (under_both count (names_from 0 call.args) (placed (length call.args) (captured_in call text pieces)) (names_under count 0 call.args (omega arith)) (placed_under count (length call.args) (captured_in call text pieces) (omega arith)))

-- A template whose references are among so many arguments

module _ (most : ℕ) (find : Either ℕ Name → Option ℕ) (under : FindsUnder most find) where
  found_within : (wanted : Either ℕ Name) (found : Option ℕ) → find wanted ≡ found → RefersWithin most (found_place (found_or wanted found))
  found_within wanted None is = tt
  found_within wanted (Some place) is = under wanted place is

  value_within : (source : Source) (p : Position) (span : Option TextRange) → RefersWithin most (reference_of (position_of (of_position source p span) find))
  value_within source (position.ImplicitlyIs n) span = found_within (Left n) (find (Left n)) refl
  value_within source (position.Is n) span = found_within (Left n) (find (Left n)) refl
  value_within source (position.Named r) span = found_within (Right (name_in source r)) (find (Right (name_in source r))) refl

  count_within : (source : Source) (c : Count) (span : Option TextRange) → CountRefersWithin most (canonical.count_of (count_of (of_count source c span) find))
  count_within source (count.Is n) span = tt
  count_within source (count.IsName r) span = found_within (Right (name_in source r)) (find (Right (name_in source r))) refl
  count_within source (count.IsParam n) span = found_within (Left n) (find (Left n)) refl
  count_within source (count.IsStar n) span = found_within (Left n) (find (Left n)) refl
  count_within source count.Implied span = tt

  bytes_within : (bytes : List ℕ) (pieces : List (Write Reference)) → ReferWithin most pieces → ReferWithin most (map Byte bytes ++ pieces)
  bytes_within [] pieces within = within
  bytes_within (b ∷ bytes) pieces within = bytes_within bytes pieces within

  literal_within : (begun : List ℕ) → ReferWithin most (canonical_pieces (literal_of begun))
  literal_within [] = tt
  literal_within (c ∷ cs) = bytes_within (c ∷ cs) [] tt

  template_within : (source : Source) (begun : List ℕ) (pieces : List Piece) → ReferWithin most (canonical_pieces (template_from source begun pieces find))
  template_within source begun [] = literal_within begun
  template_within source begun (Lit r ∷ pieces) = template_within source (begun ++ text_in source r) pieces
  template_within source begun (NextArgument a ∷ pieces) =
      subst (ReferWithin most) (sym (in_front find begun source a (template_from source [] pieces find)))
      (bytes_within begun _ (value_within source a.position _, (count_within source a.format.width _, (count_within source a.format.precision _, template_within source [] pieces))))

  -- what a text asks for refers to so many arguments, where each reference does
  pub pieces_within : (source : Source) (pieces : List Piece) → ReferWithin most (canonical_pieces (template_of source pieces find))
  pieces_within source pieces = template_within source [] pieces

-- resolved pieces refer to so many arguments, and so do their writes
pub below_of : (count : ℕ) (writes : List (Write ℕ)) → ReferWithin count (map (write_with Some) writes) → AreBelow count writes
below_of count [] within = tt
below_of count (Byte b ∷ writes) within = below_of count writes within
below_of count (Put place asked ∷ writes) within = (within.0, (one asked.width within.1.0, (one asked.precision within.1.1.0, below_of count writes within.1.1.1)))
  where
    one : (c : WriteCount ℕ) → CountRefersWithin count (write_count Some c) → IsCountBelow count c
    one NoCount is = tt
    one (Is n) is = tt
    one (Of place) is = is
