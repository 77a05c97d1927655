-- Rows of templates, one after the other.
use Rattle.std.proofs.Common.{◌≡◌, ℕ, ◌-◌, ◌<◌, ◌≤◌, Bool, suc, append_assoc, append-nil, length-append, List, [], ◌∷◌, ◌++◌, length, map, Option, Some, None, refl, sym, ap, ap₂, ◌∙◌, subst, arith}
use Rattle.std.specs.List.{repeat}
use Rattle.syn_trees.specs.declared.format_call.Template.{Template}
use Rattle.hir_expander.specs.Reached.{is_direct}
use Rattle.hir_store.specs.declared.asm.AsmRow.{AsmRow}
use Rattle.hir_asm.specs.Mapping.{Head, Places, IsLiteralRow, IsReachedRow, AreRows, in_front, up_to_last}
use Rattle.hir_asm.specs.Heads.{empty_row, filled, MapsSoFar}

-- a row, or an empty one
abbrev pub row_or_empty : Option Places → AsmRow
row_or_empty None = empty_row
row_or_empty (Some places) = record { places = places }

in_front_of_some : (row : Option Places) (rows : List AsmRow) (last : AsmRow) → in_front row (rows ++ last ∷ []) ≡ row_or_empty row ∷ (rows ++ last ∷ [])
in_front_of_some (Some places) rows last = refl
in_front_of_some None [] last = refl
in_front_of_some None (row ∷ rows) last = refl

-- a row that is there is the last one, and all in front of it are there
pub up_to_some : (rows : List (Option Places)) (places : Places) → up_to_last (rows ++ Some places ∷ []) ≡ map row_or_empty rows ++ (record { places = places }) ∷ []
up_to_some [] places = refl
up_to_some (row ∷ rows) places = ap (in_front row) (up_to_some rows places) ∙ in_front_of_some row (map row_or_empty rows) (record { places = places })

-- one that is not there adds none
pub up_to_none : (rows : List (Option Places)) → up_to_last (rows ++ None ∷ []) ≡ up_to_last rows
up_to_none [] = refl
up_to_none (row ∷ rows) = ap (in_front row) (up_to_none rows)

filled_more : (row : AsmRow) (rows : List AsmRow) (n : ℕ) → filled (row ∷ rows) (suc n) ≡ row ∷ filled rows n
filled_more row rows n = ap (λ k. row ∷ (rows ++ repeat k (empty_row ∷ []))) (less (length rows)) where
  less : (m : ℕ) → suc n - suc m ≡ n - m
  less m = omega arith

none_less : (n : ℕ) → suc n - 0 ≡ suc (n - 0)
none_less n = omega arith

-- one empty row more changes nothing of what is filled
pub filled_on : (rows : List AsmRow) (n : ℕ) → length rows < n → filled (rows ++ empty_row ∷ []) n ≡ filled rows n
filled_on rows n lt = append_assoc rows (empty_row ∷ []) (repeat (n - length (rows ++ empty_row ∷ [])) (empty_row ∷ [])) ∙ ap (λ k. rows ++ repeat k (empty_row ∷ [])) less where
  less : suc (n - length (rows ++ empty_row ∷ [])) ≡ n - length rows
  less = omega (arith, lt, length-append rows (empty_row ∷ []))

-- rows that are enough are filled
pub filled_whole : (rows : List AsmRow) (n : ℕ) → n ≤ length rows → filled rows n ≡ rows
filled_whole rows n le = ap (λ k. rows ++ repeat k (empty_row ∷ [])) less ∙ append-nil rows where
  less : n - length rows ≡ 0
  less = omega (arith, le)

-- rows up to the last, filled with empty ones
pub all_filled : (rows : List (Option Places)) → filled (up_to_last rows) (length rows) ≡ map row_or_empty rows
all_filled [] = refl
all_filled (row ∷ rows) = decide row (up_to_last rows) (all_filled rows) where
  decide : (row : Option Places) (rest : List AsmRow) → filled rest (length rows) ≡ map row_or_empty rows → filled (in_front row rest) (suc (length rows)) ≡ row_or_empty row ∷ map row_or_empty rows
  decide (Some places) rest is = filled_more (record { places = places }) rest (length rows) ∙ ap (λ l. record { places = places } ∷ l) is
  decide None [] is = ap (λ k. repeat k (empty_row ∷ [])) (none_less (length rows)) ∙ ap (λ l. empty_row ∷ l) is
  decide None (next ∷ rest) is = filled_more empty_row (next ∷ rest) (length rows) ∙ ap (λ l. empty_row ∷ l) is

module _ (heads : List Head) (reaches : Template → Option (List ℕ)) where
  -- as many rows as templates
  pub as_many : (counter last : ℕ) (templates : List Template) (rows : List (Option Places)) → AreRows heads reaches counter templates rows last → length rows ≡ length templates
  as_many counter last [] [] are = refl
  as_many counter last (template ∷ templates) (row ∷ rows) are = ap suc (as_many are.0 last templates rows are.2)
  as_many counter last [] (row ∷ rows) are = absurd are
  as_many counter last (template ∷ templates) [] are = absurd are

  -- one template more
  pub rows_on : (counter mid last : ℕ) (templates : List Template) (rows : List (Option Places)) (template : Template) (row : Option Places) →
      AreRows heads reaches counter templates rows mid → IsReachedRow heads (reaches template) (is_direct template) mid row last → AreRows heads reaches counter (templates ++ template ∷ []) (rows ++ row ∷ []) last
  rows_on counter mid last [] [] template row are one = (last, subst (λ n. IsReachedRow heads (reaches template) (is_direct template) n row last) are one, refl)
  rows_on counter mid last (t ∷ templates) (r ∷ rows) template row are one = (are.0, are.1, rows_on are.0 mid last templates rows template row are.2 one)
  rows_on counter mid last [] (r ∷ rows) template row are one = absurd are
  rows_on counter mid last (t ∷ templates) [] template row are one = absurd are

  pub maps_none : MapsSoFar heads reaches [] [] 0
  maps_none = record { seen = []; are = refl; is = refl }

  module _ (templates : List Template) (rows : List AsmRow) (counter : ℕ) (so_far : MapsSoFar heads reaches templates rows counter) (template : Template) where
    -- a template that reaches none
    pub maps_past : reaches template ≡ None → MapsSoFar heads reaches (templates ++ template ∷ []) rows counter
    maps_past none = record {
      seen = so_far.seen ++ None ∷ [];
      are = rows_on 0 counter counter templates so_far.seen template None so_far.are (subst (λ token. IsReachedRow heads token (is_direct template) counter None counter) (sym none) (refl, refl));
      is = so_far.is ∙ sym (up_to_none so_far.seen);
    }

    -- the row of a template that reaches a literal, behind the empty ones in front of it
    pub maps_row : (places : Places) (after : ℕ) → IsReachedRow heads (reaches template) (is_direct template) counter (Some places) after →
        MapsSoFar heads reaches (templates ++ template ∷ []) (filled rows (length templates) ++ (record { places = places }) ∷ []) after
    maps_row places after one = record {
      seen = so_far.seen ++ Some places ∷ [];
      are = rows_on 0 counter after templates so_far.seen template (Some places) so_far.are one;
      is = ap₂ (λ l n. filled l n ++ (record { places = places }) ∷ []) so_far.is (sym (as_many 0 counter templates so_far.seen so_far.are))
          ∙ ap (λ l. l ++ (record { places = places }) ∷ []) (all_filled so_far.seen) ∙ sym (up_to_some so_far.seen places);
    }

  -- the row of a template that reaches a literal
  pub reached_row : (template : Template) (token : List ℕ) (direct : Bool) (counter : ℕ) (places : Places) (after : ℕ) → reaches template ≡ Some token → direct ≡ is_direct template → IsLiteralRow heads token direct counter places after →
      IsReachedRow heads (reaches template) (is_direct template) counter (Some places) after
  reached_row template token direct counter places after reached same row =
      subst (λ found. IsReachedRow heads found (is_direct template) counter (Some places) after) (sym reached) (places, refl, subst (λ d. IsLiteralRow heads token d counter places after) same row)
