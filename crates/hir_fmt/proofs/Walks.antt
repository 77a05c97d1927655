-- Looking up some references and then others is looking up all of them.
use Rattle.std.proofs.Common.{◌≡◌, ℕ, ◌+◌, Bool, List, [], ◌++◌, map, Option, Some, None, refl, ap, ◌∙◌, sym, subst, append_assoc}
use Rattle.std.specs.Prelude.{option_map, Ok, Err, IfOk, OnErr}
use Rattle.std.specs.declared.result.Result.{Result}
use Rattle.std.specs.Map.{keys_of}
use Rattle.std.proofs.lemmas.List.{append-nil, map-append}
use Rattle.either.specs.declared.Either.{Either}
use Rattle.sym_core.specs.declared.name.Name.{Name}
use Rattle.sym_core.specs.declared.files.AstPtr.{AstPtr}
use Rattle.hir_fmt.specs.declared.format_args.FormatArguments.{FormatArguments}
use Rattle.hir_fmt.specs.declared.reference.Reference.{Reference}
use Rattle.hir_fmt.specs.Referred.{captured, finder}
use Rattle.hir_fmt.specs.Log.{Entry, Logs}
use Rattle.hir_fmt.specs.Walk.{told, told_by, with_made, Finds, Halts}
use Rattle.hir_fmt.proofs.Names.{told_more, told_behind, finder_behind, made_more}

-- entries behind others
pub logs_more : (old mid new : Option (List Entry)) (a b : List Entry) → Logs old a mid → Logs mid b new → Logs old (a ++ b) new
logs_more None mid new a b p q = q ∙ ap (option_map (λ log. log ++ b)) p
logs_more (Some log) mid new a b p q = q ∙ ap (option_map (λ l. l ++ b)) p ∙ ap (λ l. Some l) (append_assoc log a b)

-- no entries
pub logs_none : (old : Option (List Entry)) → Logs old [] old
logs_none None = refl
logs_none (Some log) = ap (λ l. Some l) (sym (append-nil log))

-- one look-up behind another, whose value may use what the first found
pub finds_then : {A B : Type 0} {direct : Bool} {ptr : AstPtr} {xs ys : List Reference} {f : (Either ℕ Name → Option ℕ) → A} {old mid new : FormatArguments} {log mid_log new_log : Option (List Entry)} {a : A} {b : B} (g : A → (Either ℕ Name → Option ℕ) → B) → Finds direct ptr xs f old log mid mid_log a → Finds direct ptr ys (g a) mid mid_log new new_log b → Finds direct ptr (xs ++ ys) (λ find. g (f find) find) old log new new_log b
finds_then {direct = direct} {ptr = ptr} {xs = xs} {ys = ys} {f = f} {old = old} {mid = mid} {log = log} {mid_log = mid_log} {new_log = new_log} {a = a} g p q = record {
  entries = p.entries ++ q.entries;
  told = map-append told_by p.entries q.entries
      ∙ ap (λ l. map told_by p.entries ++ l) (q.told ∙ ap (λ (args : FormatArguments). told direct (keys_of args.names) ys) p.arguments)
      ∙ sym (told_behind direct ptr old p.entries xs ys p.told);
  logged = logs_more log mid_log new_log p.entries q.entries p.logged q.logged;
  arguments = q.arguments ∙ ap (λ args. with_made ptr args q.entries) p.arguments ∙ made_more ptr old p.entries q.entries;
  finds = λ more.
      let all : List Reference = xs ++ (ys ++ more) in
      q.finds more
      ∙ ap (λ args. g a (finder direct args (ys ++ more))) p.arguments
      ∙ ap (g a) (finder_behind direct ptr old p.entries xs (ys ++ more) p.told)
      ∙ ap (λ x. g x (finder direct old all)) (p.finds (ys ++ more))
      ∙ ap (λ l. g (f (finder direct old l)) (finder direct old l)) (sym (append_assoc xs ys more));
}

-- the same value, said in another way
pub finds_is : {A : Type 0} {direct : Bool} {ptr : AstPtr} {refs : List Reference} {f g : (Either ℕ Name → Option ℕ) → A} {old new : FormatArguments} {log new_log : Option (List Entry)} {a : A} → Finds direct ptr refs f old log new new_log a → ((find : Either ℕ Name → Option ℕ) → f find ≡ g find) → Finds direct ptr refs g old log new new_log a
finds_is {direct = direct} {refs = refs} {old = old} p same = record {
  entries = p.entries;
  told = p.told;
  logged = p.logged;
  arguments = p.arguments;
  finds = λ more. p.finds more ∙ same (finder direct old (refs ++ more));
}

-- what is made of what was found
pub finds_made : {A B : Type 0} {direct : Bool} {ptr : AstPtr} {refs : List Reference} {f : (Either ℕ Name → Option ℕ) → A} {old new : FormatArguments} {log new_log : Option (List Entry)} {a : A} (k : A → B) → Finds direct ptr refs f old log new new_log a → Finds direct ptr refs (λ find. k (f find)) old log new new_log (k a)
finds_made k p = record {
  entries = p.entries;
  told = p.told;
  logged = p.logged;
  arguments = p.arguments;
  finds = λ more. ap k (p.finds more);
}

-- no arguments more
pub nothing_made : (ptr : AstPtr) (old : FormatArguments) → old ≡ with_made ptr old []
nothing_made ptr old = ap (λ l. record old { arguments = l; names = old.names }) (sym (append-nil old.arguments)) ∙ ap (λ l. record old { arguments = old.arguments ++ []; names = l }) (sym (append-nil old.names))

-- where there is nothing to look up
pub finds_nothing : {A : Type 0} (direct : Bool) (ptr : AstPtr) (old : FormatArguments) (log : Option (List Entry)) (a : A) → Finds direct ptr [] (λ find. a) old log old log a
finds_nothing direct ptr old log a = record {
  entries = [];
  told = refl;
  logged = logs_none log;
  arguments = nothing_made ptr old;
  finds = λ more. refl;
}

pub halts_at_once : (direct : Bool) (refs : List Reference) (old : FormatArguments) (log : Option (List Entry)) → Halts direct refs old log log
halts_at_once direct refs old log = record {
  entries = [];
  rest = told direct (keys_of old.names) refs;
  cut = refl;
  logged = logs_none log;
}

-- what is refused in a front is refused in the whole
pub halts_first : {direct : Bool} {xs : List Reference} {old : FormatArguments} {log new_log : Option (List Entry)} (ys : List Reference) → Halts direct xs old log new_log → Halts direct (xs ++ ys) old log new_log
halts_first {direct = direct} {xs = xs} {old = old} ys p =
    let known = keys_of old.names in
    record {
      entries = p.entries;
      rest = p.rest ++ told direct (known ++ captured direct known xs) ys;
      cut = told_more direct known xs ys
          ∙ ap (λ l. l ++ told direct (known ++ captured direct known xs) ys) p.cut
          ∙ append_assoc (map told_by p.entries) p.rest (told direct (known ++ captured direct known xs) ys);
      logged = p.logged;
    }

-- a refusal behind what was looked up
pub halts_then : {A : Type 0} {direct : Bool} {ptr : AstPtr} {xs ys : List Reference} {f : (Either ℕ Name → Option ℕ) → A} {old mid : FormatArguments} {log mid_log new_log : Option (List Entry)} {a : A} → Finds direct ptr xs f old log mid mid_log a → Halts direct ys mid mid_log new_log → Halts direct (xs ++ ys) old log new_log
halts_then {direct = direct} {ptr = ptr} {xs = xs} {ys = ys} {old = old} {log = log} {mid_log = mid_log} {new_log = new_log} p q = record {
  entries = p.entries ++ q.entries;
  rest = q.rest;
  cut = told_behind direct ptr old p.entries xs ys p.told
      ∙ ap (λ (args : FormatArguments). map told_by p.entries ++ told direct (keys_of args.names) ys) (sym p.arguments)
      ∙ ap (λ l. map told_by p.entries ++ l) q.cut
      ∙ sym (append_assoc (map told_by p.entries) (map told_by q.entries) q.rest)
      ∙ ap (λ l. l ++ q.rest) (sym (map-append told_by p.entries q.entries));
  logged = logs_more log mid_log new_log p.entries q.entries p.logged q.logged;
}

-- the same references, said in another way
pub finds_refs : {A : Type 0} {direct : Bool} {ptr : AstPtr} {xs ys : List Reference} {f : (Either ℕ Name → Option ℕ) → A} {old new : FormatArguments} {log new_log : Option (List Entry)} {a : A} → xs ≡ ys → Finds direct ptr xs f old log new new_log a → Finds direct ptr ys f old log new new_log a
finds_refs {direct = direct} {ptr = ptr} {f = f} {old = old} {new = new} {log = log} {new_log = new_log} {a = a} same p = subst (λ l. Finds direct ptr l f old log new new_log a) same p

pub halts_refs : {direct : Bool} {xs ys : List Reference} {old : FormatArguments} {log new_log : Option (List Entry)} → xs ≡ ys → Halts direct xs old log new_log → Halts direct ys old log new_log
halts_refs {direct = direct} {old = old} {log = log} {new_log = new_log} same p = subst (λ l. Halts direct l old log new_log) same p

-- a refusal once all was told
pub halts_after : {A : Type 0} {direct : Bool} {ptr : AstPtr} {refs : List Reference} {f : (Either ℕ Name → Option ℕ) → A} {old new : FormatArguments} {log new_log : Option (List Entry)} {a : A} → Finds direct ptr refs f old log new new_log a → Halts direct refs old log new_log
halts_after p = record {
  entries = p.entries;
  rest = [];
  cut = sym p.told ∙ sym (append-nil (map told_by p.entries));
  logged = p.logged;
}

-- what holds of every error
pub on_err : {T E : Type 0} {P : Type 0} (r : Result T E) → P → OnErr r P
on_err (Ok x) p = tt
on_err (Err e) p = p

pub err_weaker : {T E : Type 0} {P Q : Type 0} (r : Result T E) → (P → Q) → OnErr r P → OnErr r Q
err_weaker (Ok x) f p = tt
err_weaker (Err e) f p = f p

pub ok_weaker : {T E : Type 0} {P Q : T → Type 0} (r : Result T E) → ((x : T) → P x → Q x) → IfOk r P → IfOk r Q
ok_weaker (Ok x) f p = f x p
ok_weaker (Err e) f p = tt
