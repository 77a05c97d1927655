-- What is placed stays placed as a store grows, also in rows, in steps and in operands.
use Rattle.std.proofs.Common.{◌≡◌, ◌<◌, Bool, List, [], ◌∷◌, ◌++◌, length, Option, Some, refl, sym, ap, ap₂, ◌∙◌, subst, append_assoc, append-nil}
use Rattle.sym_core.specs.declared.name.Name.{Name}
use Rattle.hir_store.specs.declared.ids.ExprId.{ExprId}
use Rattle.hir_store.specs.declared.expr.Expr.TheVariants as expr
use Rattle.hir_store.specs.declared.expr.Statement.{Statement}
use Rattle.hir_store.specs.declared.expr.Statement.TheVariants as statement
use Rattle.hir_store.specs.declared.asm.AsmOperand.{AsmOperand}
use Rattle.hir_store.specs.declared.asm.InlineAsm.{InlineAsm as Assembly}
use Rattle.hir_store.specs.declared.store.ExpressionStore.{ExpressionStore}
use Rattle.hir_store.specs.Tree.{Tree, Trees, Steps, Shape, Operands, Empty, More, Ref, Tuple, Array, Call, Block, InlineAsm, Tail, Let, Do, NoOperand, Operand, trees, operands}
use Rattle.hir_store.specs.Unfolding.{place_of, name_in, trees_of, steps_of, operand_exprs, shape_of, operands_of, tree_at}
use Rattle.hir_store.specs.Store.{Grows, Stands, AllStand, NoDanglingIds}
use Rattle.hir_store.specs.Makes.{StepsMake, OperandsMake}
use Rattle.hir_store.proofs.Grown.{stays, stands_later, stands_as, all_later, all_on, trees_of_all, names_kept}
use Rattle.hir_store.proofs.Made.{made}
use Rattle.hir_build.specs.Origins.{Origin, bare, all_origins, steps_origins, operands_origins, origins_at}
use Rattle.hir_build.specs.Placed.{Placed, AllPlaced, StepsPlaced, OperandsPlaced, IsLet, reference_trees, reference_origins}
use Rattle.hir_build.proofs.Origins.{origins_later}

module _ (old new : ExpressionStore) (grows : Grows old new) where
  -- an index of a store without dangling ids keeps its tree
  pub tree_later : NoDanglingIds old → (id : ExprId) → place_of id < length old.exprs → tree_at new id ≡ tree_at old id
  tree_later sound id lt = stays old new grows id (sound.whole id lt)

  pub placed_later : (id : ExprId) (t : Tree) (os : List Origin) → Placed old id t os → Placed new id t os
  placed_later id t os was = record {
    stands = stands_later old new id t grows was.stands;
    comes = origins_later old new id grows was.stands.within ∙ was.comes;
  }

  all_origins_later : (ids : List ExprId) (ts : Trees) → AllStand old ids ts → all_origins (origins_at new) ids ≡ all_origins (origins_at old) ids
  all_origins_later [] ts all = refl
  all_origins_later (id ∷ ids) (More t ts) all = ap₂ (λ a b. a ++ b) (origins_later old new id grows all.0.within) (all_origins_later ids ts all.1)
  all_origins_later (id ∷ ids) Empty all = absurd all

  pub all_placed_later : (ids : List ExprId) (ts : Trees) (os : List Origin) → AllPlaced old ids ts os → AllPlaced new ids ts os
  all_placed_later ids ts os was = record {
    stand = all_later old new ids ts grows was.stand;
    come = all_origins_later ids ts was.stand ∙ was.come;
  }

  pub let_later : (s : Statement) (name : Name) (t : Tree) (os : List Origin) → IsLet old s name t os → IsLet new s name t os
  let_later s name t os was = record {
    pat = was.pat;
    value = was.value;
    is = was.is;
    binds = names_kept old new grows was.pat name was.binds;
    placed = placed_later was.value t os was.placed;
  }

  make_later : (ss : List Statement) (tail : ExprId) (steps : Steps) → StepsMake old ss (Some tail) steps → StepsMake new ss (Some tail) steps
  make_later [] tail (Tail t) make = stands_later old new tail t grows make
  make_later (statement.Let pat id ∷ ss) tail (Let name t steps) make = (names_kept old new grows pat name make.0, stands_later old new id t grows make.1, make_later ss tail steps make.2)
  make_later (statement.Expr id ∷ ss) tail (Do t steps) make = (stands_later old new id t grows make.0, make_later ss tail steps make.1)
  make_later [] tail steps make = absurd make
  make_later (statement.Let pat id ∷ ss) tail steps make = absurd make
  make_later (statement.Expr id ∷ ss) tail steps make = absurd make

  steps_origins_later : (ss : List Statement) (tail : ExprId) (steps : Steps) → StepsMake old ss (Some tail) steps →
      steps_origins (origins_at new) ss (Some tail) ≡ steps_origins (origins_at old) ss (Some tail)
  steps_origins_later [] tail (Tail t) make = origins_later old new tail grows make.within
  steps_origins_later (statement.Let pat id ∷ ss) tail (Let name t steps) make = ap₂ (λ a b. a ++ b) (origins_later old new id grows make.1.within) (steps_origins_later ss tail steps make.2)
  steps_origins_later (statement.Expr id ∷ ss) tail (Do t steps) make = ap₂ (λ a b. a ++ b) (origins_later old new id grows make.0.within) (steps_origins_later ss tail steps make.1)
  steps_origins_later [] tail steps make = absurd make
  steps_origins_later (statement.Let pat id ∷ ss) tail steps make = absurd make
  steps_origins_later (statement.Expr id ∷ ss) tail steps make = absurd make

  pub steps_later : (ss : List Statement) (tail : ExprId) (steps : Steps) (os : List Origin) → StepsPlaced old ss tail steps os → StepsPlaced new ss tail steps os
  steps_later ss tail steps os was = record {
    make = make_later ss tail steps was.make;
    come = steps_origins_later ss tail steps was.make ∙ was.come;
  }

  operands_make_later : (asm : List (Option Name × AsmOperand)) (made : Operands) → OperandsMake old asm made → OperandsMake new asm made
  operands_make_later [] NoOperand make = tt
  operands_make_later ((name, operand) ∷ asm) (Operand other shape ts made) make = (make.0, make.1, all_later old new (operand_exprs operand) ts grows make.2, operands_make_later asm made make.3)
  operands_make_later [] (Operand other shape ts made) make = absurd make
  operands_make_later (one ∷ asm) NoOperand make = absurd make

  operands_origins_later : (asm : List (Option Name × AsmOperand)) (made : Operands) → OperandsMake old asm made → operands_origins (origins_at new) asm ≡ operands_origins (origins_at old) asm
  operands_origins_later [] made make = refl
  operands_origins_later ((name, operand) ∷ asm) (Operand other shape ts made) make = ap₂ (λ a b. a ++ b) (all_origins_later (operand_exprs operand) ts make.2) (operands_origins_later asm made make.3)
  operands_origins_later (one ∷ asm) NoOperand make = absurd make

  pub operands_later : (asm : List (Option Name × AsmOperand)) (made : Operands) (os : List Origin) → OperandsPlaced old asm made os → OperandsPlaced new asm made os
  operands_later asm made os was = record {
    make = operands_make_later asm made was.make;
    come = operands_origins_later asm made was.make ∙ was.come;
  }

pub placed_as : (store : ExpressionStore) (id : ExprId) (t u : Tree) (os more : List Origin) → t ≡ u → os ≡ more → Placed store id t os → Placed store id u more
placed_as store id t u os more same comes was = record { stands = stands_as store id t u same was.stands; comes = was.comes ∙ comes }

-- Rows

-- origins of a row with more behind it
origins_append : (f : ExprId → List Origin) (ids more : List ExprId) → all_origins f (ids ++ more) ≡ all_origins f ids ++ all_origins f more
origins_append f [] more = refl
origins_append f (id ∷ ids) more = ap (λ os. f id ++ os) (origins_append f ids more) ∙ sym (append_assoc (f id) (all_origins f ids) (all_origins f more))

module _ (store : ExpressionStore) where
  pub all_placed_none : AllPlaced store [] Empty []
  all_placed_none = record { stand = tt; come = refl }

  -- one more index in front
  pub all_placed_cons : (id : ExprId) (ids : List ExprId) (t : Tree) (ts : Trees) (os more : List Origin) → Placed store id t os → AllPlaced store ids ts more →
      AllPlaced store (id ∷ ids) (More t ts) (os ++ more)
  all_placed_cons id ids t ts os more one was = record { stand = (one.stands, was.stand); come = ap₂ (λ a b. a ++ b) one.comes was.come }

  one_more_origin : (ids : List ExprId) (os more : List Origin) (id : ExprId) → all_origins (origins_at store) ids ≡ os → origins_at store id ≡ more →
      all_origins (origins_at store) (ids ++ id ∷ []) ≡ os ++ more
  one_more_origin ids os more id was one = origins_append (origins_at store) ids (id ∷ []) ∙ ap₂ (λ a b. a ++ b) was (append-nil (origins_at store id) ∙ one)

  -- one more index behind
  pub all_placed_on : (ids : List ExprId) (ts : List Tree) (os : List Origin) (id : ExprId) (t : Tree) (more : List Origin) → AllPlaced store ids (trees ts) os → Placed store id t more →
      AllPlaced store (ids ++ id ∷ []) (trees (ts ++ t ∷ [])) (os ++ more)
  all_placed_on ids ts os id t more was one = record { stand = all_on store ids ts id t was.stand one.stands; come = one_more_origin ids os more id was.come one.comes }

  module _ (tree_of : ExprId → Tree) (origins_of : ExprId → List Origin) where
    references_stand : (ids parts : List ExprId) (id part : ExprId) → AllStand store ids (reference_trees tree_of parts) → Stands store id (Ref (tree_of part)) →
        AllStand store (ids ++ id ∷ []) (reference_trees tree_of (parts ++ part ∷ []))
    references_stand [] [] id part all one = (one, tt)
    references_stand (i ∷ ids) (p ∷ parts) id part all one = (all.0, references_stand ids parts id part all.1 one)
    references_stand [] (p ∷ parts) id part all one = absurd all
    references_stand (i ∷ ids) [] id part all one = absurd all

    references_append : (parts : List ExprId) (part : ExprId) → reference_origins origins_of (parts ++ part ∷ []) ≡ reference_origins origins_of parts ++ bare ∷ origins_of part
    references_append [] part = append-nil (bare ∷ origins_of part)
    references_append (p ∷ parts) part = ap (λ os. (bare ∷ origins_of p) ++ os) (references_append parts part)
        ∙ sym (append_assoc (bare ∷ origins_of p) (reference_origins origins_of parts) (bare ∷ origins_of part))

    -- one more reference
    pub references_on : (ids parts : List ExprId) (id part : ExprId) → AllPlaced store ids (reference_trees tree_of parts) (reference_origins origins_of parts) →
        Placed store id (Ref (tree_of part)) (bare ∷ origins_of part) →
        AllPlaced store (ids ++ id ∷ []) (reference_trees tree_of (parts ++ part ∷ [])) (reference_origins origins_of (parts ++ part ∷ []))
    references_on ids parts id part was one = record {
      stand = references_stand ids parts id part was.stand one.stands;
      come = one_more_origin ids _ _ id was.come one.comes ∙ sym (references_append parts part);
    }

  -- Steps

  pub steps_tail : (tail : ExprId) (t : Tree) (os : List Origin) → Placed store tail t os → StepsPlaced store [] tail (Tail t) os
  steps_tail tail t os one = record { make = one.stands; come = one.comes }

  -- a statement in front
  pub steps_do : (id : ExprId) (ss : List Statement) (tail : ExprId) (t : Tree) (steps : Steps) (os more : List Origin) → Placed store id t os → StepsPlaced store ss tail steps more →
      StepsPlaced store (statement.Expr id ∷ ss) tail (Do t steps) (os ++ more)
  steps_do id ss tail t steps os more one was = record { make = (one.stands, was.make); come = ap₂ (λ a b. a ++ b) one.comes was.come }

  -- a `let` in front
  pub steps_let : (s : Statement) (ss : List Statement) (tail : ExprId) (name : Name) (t : Tree) (steps : Steps) (os more : List Origin) → IsLet store s name t os →
      StepsPlaced store ss tail steps more → StepsPlaced store (s ∷ ss) tail (Let name t steps) (os ++ more)
  steps_let s ss tail name t steps os more one was =
      subst (λ x. StepsPlaced store (x ∷ ss) tail (Let name t steps) (os ++ more)) (sym one.is)
      (record { make = (one.binds, one.placed.stands, was.make); come = ap₂ (λ a b. a ++ b) one.placed.comes was.come })

  -- Operands

  pub operands_none : OperandsPlaced store [] NoOperand []
  operands_none = record { make = tt; come = refl }

  -- one more operand in front, where its expressions are placed
  pub operands_cons : (name : Option Name) (operand : AsmOperand) (asm : List (Option Name × AsmOperand)) (ts : Trees) (made : Operands) (os more : List Origin) → AllPlaced store (operand_exprs operand) ts os →
      OperandsPlaced store asm made more → OperandsPlaced store ((name, operand) ∷ asm) (Operand name (shape_of operand) ts made) (os ++ more)
  operands_cons name operand asm ts made os more one was = record { make = (refl, refl, one.stand, was.make); come = ap₂ (λ a b. a ++ b) one.come was.come }

  operands_make_on : (asm : List (Option Name × AsmOperand)) (parts : List (Option Name × Shape × Trees)) (name : Option Name) (operand : AsmOperand) (ts : Trees) → OperandsMake store asm (operands parts) →
      AllStand store (operand_exprs operand) ts → OperandsMake store (asm ++ (name, operand) ∷ []) (operands (parts ++ (name, shape_of operand, ts) ∷ []))
  operands_make_on [] [] name operand ts make one = (refl, refl, one, tt)
  operands_make_on ((n, o) ∷ asm) ((m, shape, us) ∷ parts) name operand ts make one = (make.0, make.1, make.2, operands_make_on asm parts name operand ts make.3 one)
  operands_make_on [] ((m, shape, us) ∷ parts) name operand ts make one = absurd make
  operands_make_on (o ∷ asm) [] name operand ts make one = absurd make

  operands_origins_on : (f : ExprId → List Origin) (asm : List (Option Name × AsmOperand)) (name : Option Name) (operand : AsmOperand) →
      operands_origins f (asm ++ (name, operand) ∷ []) ≡ operands_origins f asm ++ all_origins f (operand_exprs operand)
  operands_origins_on f [] name operand = append-nil (all_origins f (operand_exprs operand))
  operands_origins_on f ((n, o) ∷ asm) name operand = ap (λ os. all_origins f (operand_exprs o) ++ os) (operands_origins_on f asm name operand)
      ∙ sym (append_assoc (all_origins f (operand_exprs o)) (operands_origins f asm) (all_origins f (operand_exprs operand)))

  -- one more operand behind, where its expressions are placed
  pub operands_on : (asm : List (Option Name × AsmOperand)) (parts : List (Option Name × Shape × Trees)) (os : List Origin) (name : Option Name) (operand : AsmOperand) (ts : Trees) (more : List Origin) →
      OperandsPlaced store asm (operands parts) os → AllPlaced store (operand_exprs operand) ts more →
      OperandsPlaced store (asm ++ (name, operand) ∷ []) (operands (parts ++ (name, shape_of operand, ts) ∷ [])) (os ++ more)
  operands_on asm parts os name operand ts more was one = record {
    make = operands_make_on asm parts name operand ts was.make one.stand;
    come = operands_origins_on (origins_at store) asm name operand ∙ ap₂ (λ a b. a ++ b) was.come one.come;
  }

  -- Nodes over parts that are placed

  module _ (new : ExpressionStore) (id : ExprId) (own : Origin) where
    pub tuple_made : (parts : List ExprId) (ts : Trees) (os : List Origin) → AllPlaced store parts ts os →
        Placed new id (Tuple (trees_of (tree_at store) parts)) (own ∷ all_origins (origins_at store) parts) → Placed new id (Tuple ts) (own ∷ os)
    tuple_made parts ts os all was = placed_as new id _ (Tuple ts) _ (own ∷ os) (ap Tuple (trees_of_all store parts ts all.stand)) (ap (λ l. own ∷ l) all.come) was

    pub array_made : (parts : List ExprId) (ts : Trees) (os : List Origin) → AllPlaced store parts ts os →
        Placed new id (Array (trees_of (tree_at store) parts)) (own ∷ all_origins (origins_at store) parts) → Placed new id (Array ts) (own ∷ os)
    array_made parts ts os all was = placed_as new id _ (Array ts) _ (own ∷ os) (ap Array (trees_of_all store parts ts all.stand)) (ap (λ l. own ∷ l) all.come) was

    pub call_made : (callee : ExprId) (args : List ExprId) (t : Tree) (ts : Trees) (os more : List Origin) → Placed store callee t os → AllPlaced store args ts more →
        Placed new id (Call (tree_at store callee) (trees_of (tree_at store) args)) (own ∷ (origins_at store callee ++ all_origins (origins_at store) args)) → Placed new id (Call t ts) (own ∷ (os ++ more))
    call_made callee args t ts os more one all was =
        placed_as new id _ (Call t ts) _ (own ∷ (os ++ more)) (ap₂ Call one.stands.tree (trees_of_all store args ts all.stand)) (ap (λ l. own ∷ l) (ap₂ (λ a b. a ++ b) one.comes all.come)) was

    pub block_made : (ss : List Statement) (tail : ExprId) (is_unsafe : Bool) (steps : Steps) (os : List Origin) → StepsPlaced store ss tail steps os →
        Placed new id (Block is_unsafe (steps_of (name_in store) (tree_at store) ss (Some tail))) (own ∷ steps_origins (origins_at store) ss (Some tail)) → Placed new id (Block is_unsafe steps) (own ∷ os)
    block_made ss tail is_unsafe steps os all was =
        placed_as new id _ (Block is_unsafe steps) _ (own ∷ os) (made store (expr.Block (Some tail) is_unsafe ss) (Block is_unsafe steps) (refl, all.make)).tree (ap (λ l. own ∷ l) all.come) was

    pub assembly_made : (assembly : Assembly) (operands : Operands) (os : List Origin) → OperandsPlaced store assembly.operands operands os →
        Placed new id (InlineAsm assembly.kind assembly.options (operands_of (tree_at store) assembly.operands)) (own ∷ operands_origins (origins_at store) assembly.operands) →
        Placed new id (InlineAsm assembly.kind assembly.options operands) (own ∷ os)
    assembly_made assembly operands os all was =
        placed_as new id _ (InlineAsm assembly.kind assembly.options operands) _ (own ∷ os) (made store (expr.InlineAsm assembly) (InlineAsm assembly.kind assembly.options operands) (refl, refl, all.make)).tree
        (ap (λ l. own ∷ l) all.come) was

  -- a `let` of a value that is placed
  pub let_made : (new : ExpressionStore) (s : Statement) (name : Name) (value : ExprId) (t : Tree) (os : List Origin) → Placed store value t os →
      IsLet new s name (tree_at store value) (origins_at store value) → IsLet new s name t os
  let_made new s name value t os one was = subst (λ u. IsLet new s name u os) one.stands.tree (subst (IsLet new s name (tree_at store value)) one.comes was)
