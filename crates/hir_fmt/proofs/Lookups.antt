-- Looking up one reference: the place that is found, and what is told.
use Rattle.std.proofs.Common.{◌≡◌, ℕ, ◌+◌, Bool, true, false, cond, nat_lt, List, [], ◌∷◌, ◌++◌, length, Option, Some, None, refl, ap, ◌∙◌, sym, arith}
use Rattle.std.specs.Prelude.{is_some}
use Rattle.std.specs.Map.{keys_of}
use Rattle.std.proofs.lemmas.List.{append-nil}
use Rattle.std.proofs.lemmas.Map.Made.{is_some-lookup}
use Rattle.either.specs.declared.Either.TheVariants.{Left, Right}
use Rattle.sym_core.specs.declared.name.Name.{Name}
use Rattle.sym_core.specs.declared.files.AstPtr.{AstPtr}
use Rattle.sym_core.specs.declared.text_range.TextRange.{TextRange}
use Rattle.hir_store.specs.declared.ids.ExprId.{ExprId}
use Rattle.hir_fmt.specs.declared.format_args.FormatArguments.{FormatArguments}
use Rattle.hir_fmt.specs.declared.reference.Reference.{Reference}
use Rattle.hir_fmt.specs.declared.format_args.FormatArgumentKind.TheVariants.{Captured}
use Rattle.hir_fmt.specs.Arguments.{unnamed_count, with_argument}
use Rattle.hir_fmt.specs.Firsts.{same_name, first_place}
use Rattle.hir_fmt.specs.Referred.{name_wanted, names_wanted, is_among, new_names, new_if, placed, refers}
use Rattle.hir_fmt.specs.Log.{Entry, Usage, Made, Logs}
use Rattle.hir_fmt.specs.Walk.{Asked, told_name, told_wanted, told, captured_argument, with_made, Finds, Halts, Looks, Stops, IsCaptured, StopsCapture, place_for}
use Rattle.hir_fmt.proofs.Walks.{logs_none, logs_more, nothing_made}

found_step : (b : Bool) (p place : ℕ) (r s : Option ℕ) → cond b (Some p) r ≡ Some place → (r ≡ Some place → s ≡ Some place) → cond b (Some p) s ≡ Some place
found_step true p place r s e more = e
found_step false p place r s e more = more e

-- a name that is found in the first names is found there, whatever names follow
found_first : (names more : List (Name × ℕ)) (name : Name) (place : ℕ) → first_place names name ≡ Some place → first_place (names ++ more) name ≡ Some place
found_first [] more name place e = absurd (cc)
found_first (n ∷ names) more name place e = found_step (same_name name n.0) n.1 place (first_place names name) (first_place (names ++ more) name) e (found_first names more name place)

behind_step : (b : Bool) (p : ℕ) (r s t : Option ℕ) → cond b (Some p) r ≡ None → (r ≡ None → s ≡ t) → cond b (Some p) s ≡ t
behind_step true p r s t e more = absurd (cc)
behind_step false p r s t e more = more e

-- a name that is not found in the first names is looked for behind them
found_behind : (names more : List (Name × ℕ)) (name : Name) → first_place names name ≡ None → first_place (names ++ more) name ≡ first_place more name
found_behind [] more name e = refl
found_behind (n ∷ names) more name e = behind_step (same_name name n.0) n.1 (first_place names name) (first_place (names ++ more) name) (first_place more name) e (found_behind names more name)

-- a name is among the names exactly where it has a place
among : (names : List (Name × ℕ)) (name : Name) → is_among (keys_of names) name ≡ is_some (first_place names name)
among names name = sym (is_some-lookup (same_name name) names)

-- a name that an argument bears
pub looks_found : (direct : Bool) (ptr : AstPtr) (name : Name) (span : Option TextRange) (old : FormatArguments) (log new_log : Option (List Entry)) (place : ℕ) → first_place old.names name ≡ Some place → Logs log (Usage name span ∷ []) new_log → Looks direct ptr name span old log old new_log (Some place)
looks_found direct ptr name span old log new_log place is logged = record {
  entries = Usage name span ∷ [];
  told = ap (λ b. told_name b direct name span) (sym (among old.names name ∙ ap is_some is));
  logged = logged;
  arguments = nothing_made ptr old;
  finds = λ more. sym (found_first old.names (placed (length old.arguments) (new_if direct (keys_of old.names) (name ∷ more))) name place is);
}

-- a name that no argument bears, in a literal that is not direct
pub looks_unknown : (direct : Bool) (ptr : AstPtr) (name : Name) (span : Option TextRange) (old : FormatArguments) (log : Option (List Entry)) → direct ≡ false → first_place old.names name ≡ None → Looks direct ptr name span old log old log None
looks_unknown true ptr name span old log other is = absurd (cc)
looks_unknown false ptr name span old log other is = record {
  entries = [];
  told = ap (λ b. told_name b false name span) (sym (among old.names name ∙ ap is_some is));
  logged = logs_none log;
  arguments = nothing_made ptr old;
  finds = λ more. sym (ap (λ l. first_place l name) (append-nil old.names) ∙ is);
}

first_new : (known more : List Name) (name : Name) → is_among known name ≡ false → new_names known (name ∷ more) ≡ name ∷ new_names (known ++ name ∷ []) more
first_new known more name other = ap (λ b. cond b (new_names known more) (name ∷ new_names (known ++ name ∷ []) more)) other

-- a name that no argument bears, in a direct literal
pub looks_captured : (direct : Bool) (ptr : AstPtr) (name : Name) (span : Option TextRange) (old : FormatArguments) (log : Option (List Entry)) (new : FormatArguments) (new_log : Option (List Entry)) (place : ℕ) → same_name name name ≡ true → direct ≡ true → first_place old.names name ≡ None → IsCaptured ptr name span old log new new_log place → Looks direct ptr name span old log new new_log (Some place)
looks_captured false ptr name span old log new new_log place same is_direct is p = absurd (cc)
looks_captured true ptr name span old log new new_log place same is_direct is p =
    let other : is_among (keys_of old.names) name ≡ false = among old.names name ∙ ap is_some is in
    let at = length old.arguments in
    record {
      entries = Usage name span ∷ Made name span p.id ∷ [];
      told = ap (λ b. told_name b true name span) (sym other);
      logged = p.logged;
      arguments = p.arguments;
      finds = λ more. sym (
          ap (λ l. first_place (old.names ++ placed at l) name) (first_new (keys_of old.names) more name other)
          ∙ found_behind old.names (placed at (name ∷ new_names (keys_of old.names ++ name ∷ []) more)) name is
          ∙ ap (λ b. cond b (Some at) (first_place (placed (at + 1) (new_names (keys_of old.names ++ name ∷ []) more)) name)) same
          ∙ ap (λ n. Some n) (sym p.place));
    }

-- a refusal in front of all that there is to tell
pub stops_at_once : (direct : Bool) (name : Name) (span : Option TextRange) (old : FormatArguments) (log new_log : Option (List Entry)) → new_log ≡ log → Stops direct name span old log new_log
stops_at_once direct name span old log new_log same = record {
  entries = [];
  rest = told_name (is_among (keys_of old.names) name) direct name span;
  cut = refl;
  logged = same ∙ logs_none log;
}

-- a refusal of an argument for the name
pub stops_captured : (direct : Bool) (name : Name) (span : Option TextRange) (old : FormatArguments) (log new_log : Option (List Entry)) → direct ≡ true → first_place old.names name ≡ None → StopsCapture name span log new_log → Stops direct name span old log new_log
stops_captured false name span old log new_log is_direct is p = absurd (cc)
stops_captured true name span old log new_log is_direct is p = record {
  entries = p.entries;
  rest = p.rest;
  cut = ap (λ b. told_name b true name span) (among old.names name ∙ ap is_some is) ∙ p.cut;
  logged = p.logged;
}

-- looking up a reference by name is looking up its name
pub finds_named : {direct : Bool} {ptr : AstPtr} {name : Name} {span : Option TextRange} {old : FormatArguments} {log : Option (List Entry)} {new : FormatArguments} {new_log : Option (List Entry)} {place : Option ℕ} (r : Reference) → r.wanted ≡ Right name → r.span ≡ span → Looks direct ptr name span old log new new_log place → Finds direct ptr (r ∷ []) (place_for r) old log new new_log place
finds_named {direct = direct} {name = name} {span = span} {old = old} r wanted written p =
    let known = keys_of old.names in
    record {
      entries = p.entries;
      told = p.told
          ∙ ap (λ w. told_wanted direct known w span) (sym wanted)
          ∙ ap (λ s. told_wanted direct known r.wanted s) (sym written)
          ∙ sym (append-nil (told_wanted direct known r.wanted r.span));
      logged = p.logged;
      arguments = p.arguments;
      finds = λ more.
          p.finds (names_wanted more)
          ∙ ap (λ w. refers old.num_explicit_args (old.names ++ placed (length old.arguments) (new_if direct known (name_wanted w ++ names_wanted more))) w) (sym wanted);
    }

pub halts_named : {direct : Bool} {name : Name} {span : Option TextRange} {old : FormatArguments} {log new_log : Option (List Entry)} (r : Reference) → r.wanted ≡ Right name → r.span ≡ span → Stops direct name span old log new_log → Halts direct (r ∷ []) old log new_log
halts_named {direct = direct} {name = name} {span = span} {old = old} r wanted written p =
    let known = keys_of old.names in
    record {
      entries = p.entries;
      rest = p.rest;
      cut = append-nil (told_wanted direct known r.wanted r.span)
          ∙ ap (λ s. told_wanted direct known r.wanted s) written
          ∙ ap (λ w. told_wanted direct known w span) wanted
          ∙ p.cut;
      logged = p.logged;
    }

-- a reference by number is not told
pub finds_numbered : (direct : Bool) (ptr : AstPtr) (r : Reference) (number : ℕ) (old : FormatArguments) (log : Option (List Entry)) (place : Option ℕ) → r.wanted ≡ Left number → place ≡ cond (nat_lt number old.num_explicit_args) (Some number) None → Finds direct ptr (r ∷ []) (place_for r) old log old log place
finds_numbered direct ptr r number old log place wanted is =
    let known = keys_of old.names in
    record {
      entries = [];
      told = ap (λ w. told_wanted direct known w r.span ++ []) (sym wanted);
      logged = logs_none log;
      arguments = nothing_made ptr old;
      finds = λ more. is ∙ ap (λ w. refers old.num_explicit_args (old.names ++ placed (length old.arguments) (new_if direct known (name_wanted w ++ names_wanted more))) w) (sym wanted);
    }

no_unnamed : (names : List (Name × ℕ)) (name : Name) → unnamed_count names (Captured name) ≡ 0
no_unnamed [] name = refl
no_unnamed (first ∷ more) name = refl

-- adding the argument that captures a name
with_captured : (ptr : AstPtr) (name : Name) (span : Option TextRange) (id : ExprId) (old : FormatArguments) → with_argument old (captured_argument ptr name id) ≡ with_made ptr old (Usage name span ∷ Made name span id ∷ [])
with_captured ptr name span id old =
    let behind = record old { arguments = old.arguments ++ captured_argument ptr name id ∷ []; names = old.names ++ (name, length old.arguments) ∷ [] } in
    let unnamed : old.num_unnamed_args + unnamed_count old.names (Captured name) ≡ old.num_unnamed_args = ap (λ n. old.num_unnamed_args + n) (no_unnamed old.names name) ∙ omega arith in
    let explicit : old.num_explicit_args + 0 ≡ old.num_explicit_args = omega arith in
    ap (λ n. record behind { num_unnamed_args = n; num_explicit_args = old.num_explicit_args + 0 }) unnamed
    ∙ ap (λ n. record behind { num_explicit_args = n }) explicit

-- an argument was made of a name
pub is_captured : {ptr : AstPtr} {name : Name} {span : Option TextRange} {old new : FormatArguments} {log mid new_log : Option (List Entry)} {at : ℕ} (id : ExprId) (copy : Name) → copy ≡ name → Logs log (Usage name span ∷ []) mid → Logs mid (Made name span id ∷ []) new_log → new ≡ with_argument old (captured_argument ptr copy id) → at ≡ length old.arguments → IsCaptured ptr name span old log new new_log at
is_captured {ptr = ptr} {name = name} {span = span} {old = old} {log = log} {mid = mid} {new_log = new_log} id copy same used made added place = record {
  id = id;
  logged = logs_more log mid new_log (Usage name span ∷ []) (Made name span id ∷ []) used made;
  arguments = added ∙ ap (λ n. with_argument old (captured_argument ptr n id)) same ∙ with_captured ptr name span id old;
  place = place;
}

-- making the expression was refused
pub stops_used : (name : Name) (span : Option TextRange) (log mid new_log : Option (List Entry)) → Logs log (Usage name span ∷ []) mid → new_log ≡ mid → StopsCapture name span log new_log
stops_used name span log mid new_log used same = record { entries = Usage name span ∷ []; rest = Asked name span ∷ []; cut = refl; logged = same ∙ used }

-- the expression was made, and no memory was left
pub stops_made : (name : Name) (span : Option TextRange) (id : ExprId) (log mid new_log : Option (List Entry)) → Logs log (Usage name span ∷ []) mid → Logs mid (Made name span id ∷ []) new_log → StopsCapture name span log new_log
stops_made name span id log mid new_log used made = record {
  entries = Usage name span ∷ Made name span id ∷ [];
  rest = [];
  cut = refl;
  logged = logs_more log mid new_log (Usage name span ∷ []) (Made name span id ∷ []) used made;
}
