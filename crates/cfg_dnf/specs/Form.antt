-- A predicate as sums and products of its literals, and the walk over its conjunctions: a conjunction is told by its choices, the
-- place of the chosen part of each sum that it meets, an outer sum before those inside it, and an earlier part before a later one.
use Rattle.std.specs.Prelude.{ℕ, zero, suc, ◌+◌, Bool, true, false, not, List, [], ◌∷◌, ◌++◌, map, take, drop, Option, Some, None}
use Rattle.std.specs.Option.{option_map}
use Rattle.std.specs.Str.{bytes_eq}
use Rattle.ra_cfg.specs.declared.cfg_expr.CfgExpr.{CfgExpr, CfgExpr-F}
use Rattle.ra_cfg.specs.declared.cfg_expr.CfgExpr.TheFolds.{fold-CfgExpr}
use Rattle.cfg_dnf.specs.declared.literal.Leaf.TheVariants.{Atom, Invalid, Version}
use Rattle.cfg_dnf.specs.declared.literal.Literal.{Literal}
use Rattle.cfg_dnf.specs.Conjunctions.{literal, times}

mutual
  -- a literal, a sum, or a product
  pub data Form (L : Type 0) : Type 0 where
    Lit : L → Form L
    Sum : Forms L → Form L
    Product : Forms L → Form L

  -- parts in a row
  pub data Forms (L : Type 0) : Type 0 where
    End : Forms L
    More : Form L → Forms L → Forms L

-- the parts of a predicate, negated or not
abbrev pub forms : Bool → List (Bool → Form Literal) → Forms Literal
forms negated [] = End
forms negated (part ∷ parts) = More (part negated) (forms negated parts)

-- what a predicate is, negated or not, of what its parts are
abbrev pub form_step : CfgExpr-F (Bool → Form Literal) → Bool → Form Literal
form_step CfgExpr-F.Invalid negated = Lit (literal Invalid negated)
form_step (CfgExpr-F.Atom atom) negated = Lit (literal (Atom atom) negated)
form_step (CfgExpr-F.All parts) false = Product (forms false parts)
form_step (CfgExpr-F.All parts) true = Sum (forms true parts)
form_step (CfgExpr-F.Any parts) false = Sum (forms false parts)
form_step (CfgExpr-F.Any parts) true = Product (forms true parts)
form_step (CfgExpr-F.Not part) negated = part (not negated)
form_step (CfgExpr-F.Version text) negated = Lit (literal (Version text) negated)

-- a predicate, negated or not
unfoldable pub form : CfgExpr → Bool → Form Literal
form = fold-CfgExpr (Bool → Form Literal) form_step

-- the parts of a predicate, one after the other
abbrev pub part_forms : Bool → List CfgExpr → Forms Literal
part_forms negated [] = End
part_forms negated (part ∷ parts) = More (form part negated) (part_forms negated parts)

-- the conjunctions: those of the parts of a sum in turn, and for a product every choice of one for each part
abbrev mutual
  pub listed : {L : Type 0} → Form L → List (List L)
  listed (Lit l) = (l ∷ []) ∷ []
  listed (Sum fs) = sum_listed fs
  listed (Product fs) = product_listed fs

  pub sum_listed : {L : Type 0} → Forms L → List (List L)
  sum_listed End = []
  sum_listed (More f fs) = listed f ++ sum_listed fs

  pub product_listed : {L : Type 0} → Forms L → List (List L)
  product_listed End = [] ∷ []
  product_listed (More f fs) = times (listed f) (product_listed fs)

-- one more choice in front
abbrev pub ahead : ℕ → List ℕ → List ℕ
ahead i p = i ∷ p

-- the choices where one part more stands in front of the sum's parts
abbrev pub later : List ℕ → List ℕ
later [] = []
later (i ∷ p) = suc i ∷ p

-- the choices of each conjunction, in the order of the conjunctions
abbrev mutual
  pub paths : {L : Type 0} → Form L → List (List ℕ)
  paths (Lit l) = [] ∷ []
  paths (Sum fs) = sum_paths fs
  paths (Product fs) = product_paths fs

  pub sum_paths : {L : Type 0} → Forms L → List (List ℕ)
  sum_paths End = []
  sum_paths (More f fs) = map (ahead 0) (paths f) ++ map later (sum_paths fs)

  pub product_paths : {L : Type 0} → Forms L → List (List ℕ)
  product_paths End = [] ∷ []
  product_paths (More f fs) = times (paths f) (product_paths fs)

-- how many of the choices at the front are made in this part
abbrev mutual
  pub width : {L : Type 0} → Form L → List ℕ → ℕ
  width (Lit l) p = 0
  width (Sum fs) [] = 0
  width (Sum fs) (i ∷ p) = suc (sum_width fs i p)
  width (Product fs) p = product_width fs p

  pub sum_width : {L : Type 0} → Forms L → ℕ → List ℕ → ℕ
  sum_width End i p = 0
  sum_width (More f fs) zero p = width f p
  sum_width (More f fs) (suc i) p = sum_width fs i p

  pub product_width : {L : Type 0} → Forms L → List ℕ → ℕ
  product_width End p = 0
  product_width (More f fs) p = width f p + product_width fs (drop (width f p) p)

-- the conjunction of these choices
abbrev mutual
  pub chosen : {L : Type 0} → Form L → List ℕ → List L
  chosen (Lit l) p = l ∷ []
  chosen (Sum fs) [] = []
  chosen (Sum fs) (i ∷ p) = sum_chosen fs i p
  chosen (Product fs) p = product_chosen fs p

  pub sum_chosen : {L : Type 0} → Forms L → ℕ → List ℕ → List L
  sum_chosen End i p = []
  sum_chosen (More f fs) zero p = chosen f p
  sum_chosen (More f fs) (suc i) p = sum_chosen fs i p

  pub product_chosen : {L : Type 0} → Forms L → List ℕ → List L
  product_chosen End p = []
  product_chosen (More f fs) p = chosen f (take (width f p) p) ++ product_chosen fs (drop (width f p) p)

-- the first of two that there is
abbrev pub or_else : {A : Type 0} → Option A → Option A → Option A
or_else None o = o
or_else (Some x) o = Some x

-- both, joined, where there are both
abbrev pub both : {A : Type 0} → Option (List A) → Option (List A) → Option (List A)
both None o = None
both (Some x) None = None
both (Some x) (Some y) = Some (x ++ y)

-- the choices of the first conjunction, if there is one
abbrev mutual
  pub first : {L : Type 0} → Form L → Option (List ℕ)
  first (Lit l) = Some []
  first (Sum fs) = sum_first fs
  first (Product fs) = product_first fs

  pub sum_first : {L : Type 0} → Forms L → Option (List ℕ)
  sum_first End = None
  sum_first (More f fs) = or_else (option_map (ahead 0) (first f)) (option_map later (sum_first fs))

  pub product_first : {L : Type 0} → Forms L → Option (List ℕ)
  product_first End = Some []
  product_first (More f fs) = both (first f) (product_first fs)

-- the next choices of two parts: those of the second part are turned first, and where it has no next ones those of the first
abbrev pub turn : (List ℕ → Option (List ℕ)) → Option (List ℕ) → (List ℕ → Option (List ℕ)) → List ℕ → List ℕ → Option (List ℕ)
turn next_y first_y next_x x y = or_else (option_map (λ z. x ++ z) (next_y y)) (both (next_x x) first_y)

-- the choices of the conjunction behind the one of these choices, if there is one
abbrev mutual
  pub next : {L : Type 0} → Form L → List ℕ → Option (List ℕ)
  next (Lit l) p = None
  next (Sum fs) [] = None
  next (Sum fs) (i ∷ p) = sum_next fs i p
  next (Product fs) p = product_next fs p

  pub sum_next : {L : Type 0} → Forms L → ℕ → List ℕ → Option (List ℕ)
  sum_next End i p = None
  sum_next (More f fs) zero p = or_else (option_map (ahead 0) (next f p)) (option_map later (sum_first fs))
  sum_next (More f fs) (suc i) p = option_map later (sum_next fs i p)

  pub product_next : {L : Type 0} → Forms L → List ℕ → Option (List ℕ)
  product_next End p = None
  product_next (More f fs) p = turn (product_next fs) (product_first fs) (next f) (take (width f p) p) (drop (width f p) p)

-- how many parts there are, those of all depths and the whole itself
abbrev mutual
  pub size : {L : Type 0} → Form L → ℕ
  size (Lit l) = 1
  size (Sum fs) = suc (sizes fs)
  size (Product fs) = suc (sizes fs)

  pub sizes : {L : Type 0} → Forms L → ℕ
  sizes End = 0
  sizes (More f fs) = size f + sizes fs

-- the choices behind these ones
abbrev pub behind : List ℕ → List (List ℕ) → List (List ℕ)
behind p [] = []
behind p (q ∷ qs) = elim (bytes_eq p q) [ true ↦ qs | false ↦ behind p qs ]
