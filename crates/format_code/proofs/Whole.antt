-- The code of a format call is whole where its arguments and its orphans are.
use Rattle.std.specs.Prelude.{◌≡◌, ℕ, Bool, true, false, ◌&&◌, cond, IsTrue, List, [], ◌∷◌, refl}
use Rattle.std.proofs.Common.{ap}
use Rattle.hir_store.specs.declared.lang_item.LangItem.{LangItem}
use Rattle.hir_store.specs.declared.lang_item.LangItem.TheVariants.{FormatArguments, FormatArgument}
use Rattle.hir_store.specs.declared.lang_item.LangItems.{LangItems}
use Rattle.hir_store.specs.declared.lang_item.LangFn.{LangFn}
use Rattle.hir_store.specs.declared.lang_item.LangFn.TheVariants.{New, FromStr}
use Rattle.hir_store.specs.Tree.{Tree, Missing, LangPath, Array, Path, Empty, trees, is_whole, all_whole, steps_whole}
use Rattle.sym_core.specs.declared.name.Name.TheVariants as name
use Rattle.template_bytes.specs.Pairs.{Pair, pairs_of}
use Rattle.format_code.specs.Code.{has_item, callee, function_of, references, elements, statements, behind_statements, new_code, from_str_code, with_arguments, text_code, has_placeholder, text_of}
use Rattle.format_code.specs.Laws.{StaysWhole}

-- a callee is whole, missing or not
callee_whole : (items : LangItems) (item : LangItem) (function : LangFn) → is_whole (callee items item function) ≡ true
callee_whole items item function = by (has_item items item)
  where
    by : (b : Bool) → is_whole (cond b (LangPath item function) Missing) ≡ true
    by true = refl
    by false = refl

-- references are whole where what they refer to is
references_whole : (ts : List Tree) → all_whole (references ts) ≡ all_whole (trees ts)
references_whole [] = refl
references_whole (t ∷ ts) = ap (λ b. is_whole t && b) (references_whole ts)

-- elements are whole, whatever their pairs
elements_whole : (items : LangItems) (n : ℕ) (pairs : List Pair) → all_whole (elements items n pairs) ≡ true
elements_whole items n [] = refl
elements_whole items n (pair ∷ pairs) = rw (callee_whole items FormatArgument (function_of pair.usage), elements_whole items n pairs) refl

-- statements are whole where they are, if the tail behind them is
statements_whole : (ts : List Tree) (tail : Tree) → is_whole tail ≡ true → steps_whole (statements ts tail) ≡ all_whole (trees ts)
statements_whole [] tail whole = whole
statements_whole (t ∷ ts) tail whole = ap (λ b. is_whole t && b) (statements_whole ts tail whole)

-- so is the block of them, or the tail alone
behind_whole : (ts : List Tree) (tail : Tree) → is_whole tail ≡ true → is_whole (behind_statements ts tail) ≡ all_whole (trees ts)
behind_whole [] tail whole = whole
behind_whole (t ∷ ts) tail whole = statements_whole (t ∷ ts) tail whole

-- a template is whole where its list is
new_whole : (items : LangItems) (bytes : List ℕ) (list : Tree) → is_whole list ≡ true → is_whole (new_code items bytes list) ≡ true
new_whole items bytes list whole = rw (callee_whole items FormatArguments New, whole) refl

-- a text is whole
from_str_whole : (items : LangItems) (text : List ℕ) → is_whole (from_str_code items text) ≡ true
from_str_whole items text = rw (callee_whole items FormatArguments FromStr) refl

-- a template with its arguments is whole where these and its orphans are
template_whole : (items : LangItems) (n : ℕ) (args : List Tree) (pairs : List Pair) (bytes : List ℕ) (orphans : List Tree)
    → IsTrue (all_whole (trees args)) → IsTrue (all_whole (trees orphans)) → IsTrue (is_whole (with_arguments items n args pairs bytes orphans))
template_whole items n [] pairs bytes orphans first second = rw (behind_whole orphans (new_code items bytes (Array Empty)) (new_whole items bytes (Array Empty) refl)) second
template_whole items n (arg ∷ args) pairs bytes orphans first second =
    let tail = new_whole items bytes (Path (name.Fresh n)) refl in
    rw (references_whole args, first, elements_whole items n pairs, statements_whole orphans (new_code items bytes (Path (name.Fresh n))) tail, second) refl

-- a template or a text
pub stays_whole : StaysWhole
stays_whole items n args bytes pieces orphans first second = by (has_placeholder pieces)
  where
    by : (b : Bool) → IsTrue (is_whole (cond b (with_arguments items n args (pairs_of pieces) bytes orphans) (text_code items args (text_of pieces))))
    by true = template_whole items n args (pairs_of pieces) bytes orphans first second
    by false = rw (behind_whole args (from_str_code items (text_of pieces)) (from_str_whole items (text_of pieces))) first
