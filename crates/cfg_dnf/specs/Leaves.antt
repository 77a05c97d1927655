-- By recursion over a predicate, and not through its conjunctions: whether it has one, whether one passes a test with all of its
-- literals, and which literals stand in one.
use Rattle.std.specs.Prelude.{Bool, true, false, ◌&&◌, ◌||◌, if◌then◌else◌, List, [], ◌∷◌, ◌++◌}
use Rattle.cfg_dnf.specs.Form.{Form, Lit, Sum, Product, Forms, End, More}

-- whether there is a conjunction
abbrev mutual
  pub has : {L : Type 0} → Form L → Bool
  has (Lit l) = true
  has (Sum fs) = some_has fs
  has (Product fs) = all_have fs

  pub some_has : {L : Type 0} → Forms L → Bool
  some_has End = false
  some_has (More f fs) = has f || some_has fs

  pub all_have : {L : Type 0} → Forms L → Bool
  all_have End = true
  all_have (More f fs) = has f && all_have fs

-- whether the literals of one conjunction all pass a test
abbrev mutual
  pub passes : {L : Type 0} → (L → Bool) → Form L → Bool
  passes test (Lit l) = test l
  passes test (Sum fs) = some_passes test fs
  passes test (Product fs) = all_pass test fs

  pub some_passes : {L : Type 0} → (L → Bool) → Forms L → Bool
  some_passes test End = false
  some_passes test (More f fs) = passes test f || some_passes test fs

  pub all_pass : {L : Type 0} → (L → Bool) → Forms L → Bool
  all_pass test End = true
  all_pass test (More f fs) = passes test f && all_pass test fs

-- the literals that count: those of a product count only where each of its parts has a conjunction
abbrev mutual
  pub counted : {L : Type 0} → Form L → List L
  counted (Lit l) = l ∷ []
  counted (Sum fs) = all_counted fs
  counted (Product fs) = if all_have fs then all_counted fs else []

  pub all_counted : {L : Type 0} → Forms L → List L
  all_counted End = []
  all_counted (More f fs) = counted f ++ all_counted fs
