-- What lines say, line by line.
use Rattle.std.proofs.Common.{◌≡◌, ℕ, ◌+◌, ◌≤◌, Bool, true, false, if◌then◌else◌, List, [], ◌∷◌, ◌++◌, length, Option, Some, None, refl, ap, ◌∙◌, sym, append_assoc, length-append, suc, arith}
use Rattle.std.specs.List.{fold}
use Rattle.std.proofs.lemmas.List.{append-nil}
use Rattle.std.proofs.lemmas.List.Sums.{fold-append}
use Rattle.text_cut.specs.Reading.{Spelled, StepsBy}
use Rattle.ra_cfg.specs.declared.cfg_expr.CfgExpr.{CfgExpr}
use Rattle.ra_cfg.specs.Options.{only_true}
use Rattle.syn_trees.specs.declared.format_call.Template.{Template}
use Rattle.hir_expander.specs.Table.{Definition, defined, same_name}
use Rattle.script_grammar.specs.Limits.{usual_limit}
use Rattle.script_grammar.specs.declared.item.Item.{Item}
use Rattle.script_grammar.specs.declared.item.Item.TheVariants.{Flag, Pair, Version, Limit, NoLang, Macro, Cfg, Attr, Format, Asm}
use Rattle.script_grammar.specs.Script.{calls_in, counted}
use Rattle.script.specs.declared.reading.Reading.{Reading}
use Rattle.script.specs.Contents.{options_with, macros_with, limit_with, items_with, all_items, waiting_with, calls_at, calls_behind}
use Rattle.script.specs.ReadLines.{GoesOn, HasRead}

-- the calls of lines and of one more
calls_more : (waiting : List CfgExpr) (lines : List (Option Item)) (line : Option Item) → calls_behind waiting (lines ++ line ∷ []) ≡ calls_behind waiting lines ++ calls_at (fold waiting_with waiting lines) line
calls_more waiting [] line = append-nil (calls_at waiting line)
calls_more waiting (first ∷ lines) line =
    ap (λ l. calls_at waiting first ++ l) (calls_more (waiting_with waiting first) lines line)
    ∙ sym (append_assoc (calls_at waiting first) (calls_behind (waiting_with waiting first) lines) (calls_at (fold waiting_with (waiting_with waiting first) lines) line))

-- what is kept line by line, behind lines and one more
fold_more : {S : Type 0} (step : S → Option Item → S) (start s t : S) (lines : List (Option Item)) (line : Option Item) → s ≡ fold step start lines → t ≡ step s line → t ≡ fold step start (lines ++ line ∷ [])
fold_more step start s t lines line before now = now ∙ (ap (λ x. step x line) before ∙ sym (fold-append step start lines (line ∷ [])))

-- what lines and one more say
pub has_read_more : (old new : Reading) (lines : List (Option Item)) (line : Option Item) → HasRead old lines → GoesOn old line new → HasRead new (lines ++ line ∷ [])
has_read_more old new lines line has goes = record {
  options = fold_more options_with only_true old.options new.options lines line has.options goes.options;
  macros = fold_more macros_with [] old.macros new.macros lines line has.macros goes.macros;
  limit = fold_more limit_with usual_limit old.limit new.limit lines line has.limit goes.limit;
  items = fold_more items_with all_items old.items new.items lines line has.items goes.items;
  waiting = fold_more waiting_with [] old.waiting new.waiting lines line has.waiting goes.waiting;
  calls = goes.calls ∙ (ap (λ l. l ++ calls_at old.waiting line) has.calls ∙ (ap (λ w. calls_behind [] lines ++ calls_at w line) has.waiting ∙ sym (calls_more [] lines line)));
}

-- what a line is counted as, as a number of calls
counts_call : (waiting : List CfgExpr) (line : Option Item) → length (calls_at waiting line) ≤ 1
counts_call waiting None = omega arith
counts_call waiting (Some (Flag name)) = omega arith
counts_call waiting (Some (Pair key value)) = omega arith
counts_call waiting (Some (Version text answer)) = omega arith
counts_call waiting (Some (Limit limit)) = omega arith
counts_call waiting (Some (NoLang lang)) = omega arith
counts_call waiting (Some (Macro name body)) = omega arith
counts_call waiting (Some (Cfg trees)) = omega arith
counts_call waiting (Some (Attr syntax)) = omega arith
counts_call waiting (Some (Format call)) = omega arith
counts_call waiting (Some (Asm call)) = omega arith

-- a line is a call as often as it is counted
counts_as : (waiting : List CfgExpr) (line : Option Item) (n : ℕ) → counted line n ≡ n + length (calls_at waiting line)
counts_as waiting None n = omega arith
counts_as waiting (Some (Flag name)) n = omega arith
counts_as waiting (Some (Pair key value)) n = omega arith
counts_as waiting (Some (Version text answer)) n = omega arith
counts_as waiting (Some (Limit limit)) n = omega arith
counts_as waiting (Some (NoLang lang)) n = omega arith
counts_as waiting (Some (Macro name body)) n = omega arith
counts_as waiting (Some (Cfg trees)) n = omega arith
counts_as waiting (Some (Attr syntax)) n = omega arith
counts_as waiting (Some (Format call)) n = omega arith
counts_as waiting (Some (Asm call)) n = omega arith

-- one call at most is added
pub one_call : (old new : Reading) (line : Option Item) → GoesOn old line new → length new.calls.items ≤ length old.calls.items + 1
one_call old new line goes = omega (arith, ap length goes.calls, length-append old.calls.items (calls_at old.waiting line), counts_call old.waiting line)

-- the number of calls behind a line
pub calls_counted : (old new : Reading) (line : Option Item) → GoesOn old line new → counted line (length old.calls.items) ≡ length new.calls.items
calls_counted old new line goes = omega (arith, ap length goes.calls, length-append old.calls.items (calls_at old.waiting line), counts_as old.waiting line (length old.calls.items))

-- a table with a definition more has one name more at most
defined_more : (name : List ℕ) (body : Option Template) (table : List Definition) → length (defined name body table) ≤ length table + 1
defined_more name body [] = omega arith
defined_more name body (d ∷ table) = by_name (same_name name d.0) (defined_more name body table)
  where
    by_name : (same : Bool) → length (defined name body table) ≤ length table + 1 → length (if same then (d.0, body) ∷ table else d ∷ defined name body table) ≤ suc (length table) + 1
    by_name true more = omega arith
    by_name false more = omega (arith, more)

-- a line has one macro at most
line_macro : (macros : List Definition) (line : Option Item) → length (macros_with macros line) ≤ length macros + 1
line_macro macros (Some (Macro name body)) = defined_more name body macros
line_macro macros None = omega arith
line_macro macros (Some (Flag name)) = omega arith
line_macro macros (Some (Pair key value)) = omega arith
line_macro macros (Some (Version text answer)) = omega arith
line_macro macros (Some (Limit limit)) = omega arith
line_macro macros (Some (NoLang lang)) = omega arith
line_macro macros (Some (Cfg trees)) = omega arith
line_macro macros (Some (Attr syntax)) = omega arith
line_macro macros (Some (Format call)) = omega arith
line_macro macros (Some (Asm call)) = omega arith

-- one macro at most is added
pub one_macro : (old new : Reading) (line : Option Item) → GoesOn old line new → length new.macros ≤ length old.macros + 1
one_macro old new line goes = omega (arith, ap length goes.macros, line_macro old.macros line)

-- the calls of lines in front of one more
counted_last : (first last : Option Item) (n : ℕ) → counted first (counted last n) ≡ counted last (counted first n)
counted_last first last n = omega (arith, counts_as [] first n, counts_as [] last n, counts_as [] first (counted last n), counts_as [] last (counted first n))

calls_in_more : (front : List (Spelled (Option Item))) (s : Spelled (Option Item)) → calls_in (front ++ s ∷ []) ≡ counted s.item (calls_in front)
calls_in_more [] s = refl
calls_in_more (t ∷ front) s = ap (λ n. counted t.item n) (calls_in_more front s) ∙ counted_last t.item s.item (calls_in front)

-- one line more is counted by what it stands for
pub steps_by : StepsBy calls_in (λ number line. counted line number)
steps_by = record { more = calls_in_more }
