-- The arguments of a call: those that are written, then, where its text is a direct literal, one for each distinct name that the text
-- refers to and no written argument bears; and which of them a reference refers to.
use Rattle.std.specs.Prelude.{ℕ, ◌+◌, Bool, true, false, nat_eq, nat_lt, if◌then◌else◌, List, [], ◌∷◌, ◌++◌, length, Option, Some, None}
use Rattle.std.specs.Map.{keys_of}
use Rattle.std.specs.List.{list_any}
use Rattle.either.specs.declared.Either.{Either}
use Rattle.either.specs.declared.Either.TheVariants.{Left, Right}
use Rattle.sym_core.specs.declared.name.Name.{Name}
use Rattle.hir_store.specs.declared.ids.ExprId.{ExprId}
use Rattle.hir_fmt.specs.declared.format_args.FormatArgument.{FormatArgument}
use Rattle.hir_fmt.specs.declared.format_args.FormatArguments.{FormatArguments}
use Rattle.hir_fmt.specs.declared.reference.Reference.{Reference}
use Rattle.hir_fmt.specs.Arguments.{explicit_of}
use Rattle.hir_fmt.specs.Firsts.{same_name, first_place}

-- the name that is wanted, if one is
abbrev pub name_wanted : Either ℕ Name → List Name
name_wanted (Left n) = []
name_wanted (Right name) = name ∷ []

-- the names that references are by
abbrev pub names_wanted : List Reference → List Name
names_wanted [] = []
names_wanted (r ∷ refs) = name_wanted r.wanted ++ names_wanted refs

-- the name is one of these
abbrev pub is_among : List Name → Name → Bool
is_among names name = list_any (same_name name) names

-- the distinct names that are not among the known ones, by first occurrence
abbrev pub new_names : List Name → List Name → List Name
new_names known [] = []
new_names known (name ∷ names) = if is_among known name then new_names known names else (name ∷ new_names (known ++ name ∷ []) names)

-- those of the names that are captured, where these are known; none where the text is no direct literal
abbrev pub new_if : Bool → List Name → List Name → List Name
new_if true known names = new_names known names
new_if false known names = []

-- the names that references capture, where these are known
abbrev pub captured : Bool → List Name → List Reference → List Name
captured direct known refs = new_if direct known (names_wanted refs)

-- names with their places, from this place on
abbrev pub placed : ℕ → List Name → List (Name × ℕ)
placed at [] = []
placed at (name ∷ names) = (name, at) ∷ placed (at + 1) names

-- the names of all arguments, with their places
abbrev pub all_names : Bool → FormatArguments → List Reference → List (Name × ℕ)
all_names direct args refs = args.names ++ placed (length args.arguments) (captured direct (keys_of args.names) refs)

-- the place of the argument that is referred to by what is wanted, if there is one
abbrev pub Finder : Type 0
Finder = Either ℕ Name → Option ℕ

-- a number refers to the written argument at that place, and a name to the first argument of that name
abbrev pub refers : ℕ → List (Name × ℕ) → Either ℕ Name → Option ℕ
refers explicit names (Left n) = if nat_lt n explicit then Some n else None
refers explicit names (Right name) = first_place names name

-- what references refer to in a call with these written arguments, whose text has these references
abbrev pub finder : Bool → FormatArguments → List Reference → Either ℕ Name → Option ℕ
finder direct args refs = refers args.num_explicit_args (all_names direct args refs)

-- the place that was found, if one was
abbrev pub place_list : Option ℕ → List ℕ
place_list None = []
place_list (Some place) = place ∷ []

-- the places of the arguments that references refer to
abbrev pub places_found : (Either ℕ Name → Option ℕ) → List Reference → List ℕ
places_found find [] = []
places_found find (r ∷ refs) = place_list (find r.wanted) ++ places_found find refs

-- the place is one of these
abbrev pub is_one_of : List ℕ → ℕ → Bool
is_one_of places at = list_any (nat_eq at) places

-- the expressions of those arguments, from this place on, whose places are none of these
abbrev pub unreferred : List ℕ → ℕ → List FormatArgument → List ExprId
unreferred places at [] = []
unreferred places at (arg ∷ args) = if is_one_of places at then unreferred places (at + 1) args else (arg.expr ∷ unreferred places (at + 1) args)

-- the expressions of the written arguments that no reference refers to
abbrev pub orphans_of : Bool → FormatArguments → List Reference → List ExprId
orphans_of direct args refs = unreferred (places_found (finder direct args refs) refs) 0 (explicit_of args)
