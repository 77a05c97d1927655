-- The names that references capture, and what is told of references, a part of them after the other.
use Rattle.std.proofs.Common.{◌≡◌, ℕ, ◌+◌, Bool, true, false, cond, suc, Option, List, [], ◌∷◌, ◌++◌, length, map, refl, ap, ◌∙◌, sym, append_assoc, arith}
use Rattle.std.specs.Map.{keys_of}
use Rattle.std.proofs.lemmas.List.{append-nil, map-append, length-append}
use Rattle.either.specs.declared.Either.{Either}
use Rattle.either.specs.declared.Either.TheVariants.{Left, Right}
use Rattle.sym_core.specs.declared.name.Name.{Name}
use Rattle.sym_core.specs.declared.files.AstPtr.{AstPtr}
use Rattle.sym_core.specs.declared.text_range.TextRange.{TextRange}
use Rattle.hir_fmt.specs.declared.format_args.FormatArguments.{FormatArguments}
use Rattle.hir_fmt.specs.declared.reference.Reference.{Reference}
use Rattle.hir_fmt.specs.Referred.{name_wanted, names_wanted, is_among, new_names, new_if, captured, placed, finder, refers}
use Rattle.hir_fmt.specs.Log.{Entry, Usage, Made}
use Rattle.hir_fmt.specs.Walk.{Told, Used, Asked, told_name, told_wanted, told, told_by, asked_names, captured_argument, arguments_made, with_made}

pub names_wanted_append : (xs ys : List Reference) → names_wanted (xs ++ ys) ≡ names_wanted xs ++ names_wanted ys
names_wanted_append [] ys = refl
names_wanted_append (r ∷ xs) ys = ap (λ l. name_wanted r.wanted ++ l) (names_wanted_append xs ys) ∙ sym (append_assoc (name_wanted r.wanted) (names_wanted xs) (names_wanted ys))

more_step : (b : Bool) (known : List Name) (n : Name) (ns ms : List Name) → new_names known (ns ++ ms) ≡ new_names known ns ++ new_names (known ++ new_names known ns) ms → new_names (known ++ n ∷ []) (ns ++ ms) ≡ new_names (known ++ n ∷ []) ns ++ new_names ((known ++ n ∷ []) ++ new_names (known ++ n ∷ []) ns) ms → cond b (new_names known (ns ++ ms)) (n ∷ new_names (known ++ n ∷ []) (ns ++ ms)) ≡ cond b (new_names known ns) (n ∷ new_names (known ++ n ∷ []) ns) ++ new_names (known ++ cond b (new_names known ns) (n ∷ new_names (known ++ n ∷ []) ns)) ms
more_step true known n ns ms p q = p
more_step false known n ns ms p q = ap (λ l. n ∷ l) q ∙ ap (λ k. n ∷ (new_names (known ++ n ∷ []) ns ++ new_names k ms)) (append_assoc known (n ∷ []) (new_names (known ++ n ∷ []) ns))

pub new_names_more : (known ns ms : List Name) → new_names known (ns ++ ms) ≡ new_names known ns ++ new_names (known ++ new_names known ns) ms
new_names_more known [] ms = ap (λ k. new_names k ms) (sym (append-nil known))
new_names_more known (n ∷ ns) ms = more_step (is_among known n) known n ns ms (new_names_more known ns ms) (new_names_more (known ++ n ∷ []) ns ms)

new_if_more : (direct : Bool) (known ns ms : List Name) → new_if direct known (ns ++ ms) ≡ new_if direct known ns ++ new_if direct (known ++ new_if direct known ns) ms
new_if_more true known ns ms = new_names_more known ns ms
new_if_more false known ns ms = refl

pub captured_more : (direct : Bool) (known : List Name) (xs ys : List Reference) → captured direct known (xs ++ ys) ≡ captured direct known xs ++ captured direct (known ++ captured direct known xs) ys
captured_more direct known xs ys = ap (new_if direct known) (names_wanted_append xs ys) ∙ new_if_more direct known (names_wanted xs) (names_wanted ys)

pub captured_none : (direct : Bool) (known : List Name) → captured direct known [] ≡ []
captured_none true known = refl
captured_none false known = refl

known_more : (direct : Bool) (known : List Name) (r : Reference) (xs : List Reference) → (known ++ captured direct known (r ∷ [])) ++ captured direct (known ++ captured direct known (r ∷ [])) xs ≡ known ++ captured direct known (r ∷ xs)
known_more direct known r xs = append_assoc known (captured direct known (r ∷ [])) (captured direct (known ++ captured direct known (r ∷ [])) xs) ∙ ap (λ l. known ++ l) (sym (captured_more direct known (r ∷ []) xs))

pub told_more : (direct : Bool) (known : List Name) (xs ys : List Reference) → told direct known (xs ++ ys) ≡ told direct known xs ++ told direct (known ++ captured direct known xs) ys
told_more direct known [] ys = ap (λ k. told direct k ys) (sym (append-nil known) ∙ ap (λ l. known ++ l) (sym (captured_none direct known)))
told_more direct known (r ∷ xs) ys =
    let behind = known ++ captured direct known (r ∷ []) in
    ap (λ l. told_wanted direct known r.wanted r.span ++ l) (told_more direct behind xs ys ∙ ap (λ k. told direct behind xs ++ told direct k ys) (known_more direct known r xs))
    ∙ sym (append_assoc (told_wanted direct known r.wanted r.span) (told direct behind xs) (told direct (known ++ captured direct known (r ∷ xs)) ys))

pub asked_append : (a b : List Told) → asked_names (a ++ b) ≡ asked_names a ++ asked_names b
asked_append [] b = refl
asked_append (Used n s ∷ a) b = asked_append a b
asked_append (Asked n s ∷ a) b = ap (λ l. n ∷ l) (asked_append a b)

asked_name : (b : Bool) (n : Name) (s : Option TextRange) → asked_names (told_name b true n s) ≡ cond b [] (n ∷ [])
asked_name true n s = refl
asked_name false n s = refl

asked_none : (b : Bool) (n : Name) (s : Option TextRange) → asked_names (told_name b false n s) ≡ []
asked_none true n s = refl
asked_none false n s = refl

asked_wanted : (known : List Name) (w : Either ℕ Name) (s : Option TextRange) → asked_names (told_wanted true known w s) ≡ new_names known (name_wanted w ++ [])
asked_wanted known (Left k) s = refl
asked_wanted known (Right n) s = asked_name (is_among known n) n s

asked_indirect : (known : List Name) (w : Either ℕ Name) (s : Option TextRange) → asked_names (told_wanted false known w s) ≡ []
asked_indirect known (Left k) s = refl
asked_indirect known (Right n) s = asked_none (is_among known n) n s

asked_one : (direct : Bool) (known : List Name) (r : Reference) → asked_names (told_wanted direct known r.wanted r.span) ≡ captured direct known (r ∷ [])
asked_one true known r = asked_wanted known r.wanted r.span
asked_one false known r = asked_indirect known r.wanted r.span

-- the names that are asked for are those that are captured
pub asked_told : (direct : Bool) (known : List Name) (refs : List Reference) → asked_names (told direct known refs) ≡ captured direct known refs
asked_told direct known [] = sym (captured_none direct known)
asked_told direct known (r ∷ refs) =
    let behind = known ++ captured direct known (r ∷ []) in
    asked_append (told_wanted direct known r.wanted r.span) (told direct behind refs)
    ∙ ap (λ l. l ++ asked_names (told direct behind refs)) (asked_one direct known r)
    ∙ ap (λ l. captured direct known (r ∷ []) ++ l) (asked_told direct behind refs)
    ∙ sym (captured_more direct known (r ∷ []) refs)

keys_append : (a b : List (Name × ℕ)) → keys_of (a ++ b) ≡ keys_of a ++ keys_of b
keys_append [] b = refl
keys_append (e ∷ a) b = ap (λ l. e.0 ∷ l) (keys_append a b)

keys_placed : (at : ℕ) (ns : List Name) → keys_of (placed at ns) ≡ ns
keys_placed at [] = refl
keys_placed at (n ∷ ns) = ap (λ l. n ∷ l) (keys_placed (at + 1) ns)

placed_append : (at : ℕ) (a b : List Name) → placed at (a ++ b) ≡ placed at a ++ placed (at + length a) b
placed_append at [] b = ap (λ k. placed k b) (omega arith)
placed_append at (n ∷ a) b = ap (λ l. (n, at) ∷ l) (placed_append (at + 1) a b ∙ ap (λ k. placed (at + 1) a ++ placed k b) (omega arith))

made_append : (ptr : AstPtr) (a b : List Entry) → arguments_made ptr (a ++ b) ≡ arguments_made ptr a ++ arguments_made ptr b
made_append ptr [] b = refl
made_append ptr (Usage n s ∷ a) b = made_append ptr a b
made_append ptr (Made n s id ∷ a) b = ap (λ l. captured_argument ptr n id ∷ l) (made_append ptr a b)

length_made : (ptr : AstPtr) (es : List Entry) → length (arguments_made ptr es) ≡ length (asked_names (map told_by es))
length_made ptr [] = refl
length_made ptr (Usage n s ∷ es) = length_made ptr es
length_made ptr (Made n s id ∷ es) = ap (λ k. suc k) (length_made ptr es)

-- the names of the arguments once the references were told
names_after : (direct : Bool) (ptr : AstPtr) (old : FormatArguments) (es : List Entry) (refs : List Reference) → map told_by es ≡ told direct (keys_of old.names) refs → asked_names (map told_by es) ≡ captured direct (keys_of old.names) refs
names_after direct ptr old es refs is = ap asked_names is ∙ asked_told direct (keys_of old.names) refs

pub known_after : (direct : Bool) (ptr : AstPtr) (old : FormatArguments) (es : List Entry) (refs : List Reference) → map told_by es ≡ told direct (keys_of old.names) refs → keys_of (with_made ptr old es).names ≡ keys_of old.names ++ captured direct (keys_of old.names) refs
known_after direct ptr old es refs is =
    keys_append old.names (placed (length old.arguments) (asked_names (map told_by es)))
    ∙ ap (λ l. keys_of old.names ++ l) (keys_placed (length old.arguments) (asked_names (map told_by es)) ∙ names_after direct ptr old es refs is)

-- what is told of references behind those that were told
pub told_behind : (direct : Bool) (ptr : AstPtr) (old : FormatArguments) (es : List Entry) (xs ys : List Reference) → map told_by es ≡ told direct (keys_of old.names) xs → told direct (keys_of old.names) (xs ++ ys) ≡ map told_by es ++ told direct (keys_of (with_made ptr old es).names) ys
told_behind direct ptr old es xs ys is =
    told_more direct (keys_of old.names) xs ys
    ∙ ap (λ k. told direct (keys_of old.names) xs ++ told direct k ys) (sym (known_after direct ptr old es xs is))
    ∙ ap (λ l. l ++ told direct (keys_of (with_made ptr old es).names) ys) (sym is)

-- what references refer to is the same, before and after those in front of them were told
pub finder_behind : (direct : Bool) (ptr : AstPtr) (old : FormatArguments) (es : List Entry) (xs ys : List Reference) → map told_by es ≡ told direct (keys_of old.names) xs → finder direct (with_made ptr old es) ys ≡ finder direct old (xs ++ ys)
finder_behind direct ptr old es xs ys is = ap (refers old.num_explicit_args) (
    let known = keys_of old.names in
    let front = captured direct known xs in
    let at = length old.arguments in
    ap (λ k. (with_made ptr old es).names ++ placed (length (with_made ptr old es).arguments) (captured direct k ys)) (known_after direct ptr old es xs is)
    ∙ ap (λ k. (with_made ptr old es).names ++ placed k (captured direct (known ++ front) ys)) (length-append old.arguments (arguments_made ptr es) ∙ ap (λ n. at + n) (length_made ptr es ∙ ap length (names_after direct ptr old es xs is)))
    ∙ ap (λ l. (old.names ++ placed at l) ++ placed (at + length front) (captured direct (known ++ front) ys)) (names_after direct ptr old es xs is)
    ∙ append_assoc old.names (placed at front) (placed (at + length front) (captured direct (known ++ front) ys))
    ∙ ap (λ l. old.names ++ l) (sym (placed_append at front (captured direct (known ++ front) ys)))
    ∙ ap (λ l. old.names ++ placed at l) (sym (captured_more direct known xs ys)))

-- more entries behind others
pub made_more : (ptr : AstPtr) (old : FormatArguments) (a b : List Entry) → with_made ptr (with_made ptr old a) b ≡ with_made ptr old (a ++ b)
made_more ptr old a b =
    let at = length old.arguments in
    let asked_a = asked_names (map told_by a) in
    let asked_b = asked_names (map told_by b) in
    let arguments = append_assoc old.arguments (arguments_made ptr a) (arguments_made ptr b) ∙ ap (λ l. old.arguments ++ l) (sym (made_append ptr a b)) in
    let names =
    ap (λ k. (old.names ++ placed at asked_a) ++ placed k asked_b) (length-append old.arguments (arguments_made ptr a) ∙ ap (λ n. at + n) (length_made ptr a))
    ∙ append_assoc old.names (placed at asked_a) (placed (at + length asked_a) asked_b)
    ∙ ap (λ l. old.names ++ l) (sym (placed_append at asked_a asked_b))
    ∙ ap (λ l. old.names ++ placed at l) (sym (ap asked_names (map-append told_by a b) ∙ asked_append (map told_by a) (map told_by b))) in
    ap (λ l. record old { arguments = l; names = (old.names ++ placed at asked_a) ++ placed (length (old.arguments ++ arguments_made ptr a)) asked_b }) arguments
    ∙ ap (λ l. record old { arguments = old.arguments ++ arguments_made ptr (a ++ b); names = l }) names
