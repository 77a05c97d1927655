-- Lists, and every choice from two of them.
use Rattle.std.proofs.Common.{◌≡◌, List, [], ◌∷◌, ◌++◌, map, refl, sym, ap, ◌∙◌}
use Rattle.std.specs.List.{AllByRecursion}
use Rattle.cfg_dnf.specs.Conjunctions.{times}

-- maps are joined, and joined lists are mapped
pub map_joined : {A B : Type 0} (g : A → B) (xs ys : List A) → map g (xs ++ ys) ≡ map g xs ++ map g ys
map_joined g [] ys = refl
map_joined g (x ∷ xs) ys = ap (λ r. g x ∷ r) (map_joined g xs ys)

pub map_twice : {A B C : Type 0} (g : B → C) (h : A → B) (xs : List A) → map g (map h xs) ≡ map (λ x. g (h x)) xs
map_twice g h [] = refl
map_twice g h (x ∷ xs) = ap (λ r. g (h x) ∷ r) (map_twice g h xs)

-- functions that agree on the elements map them alike
pub map_alike : {A B : Type 0} (g h : A → B) (xs : List A) → AllByRecursion (λ x. g x ≡ h x) xs → map g xs ≡ map h xs
map_alike g h [] all = refl
map_alike g h (x ∷ xs) all = ap (λ y. y ∷ map g xs) all.0 ∙ ap (λ r. h x ∷ r) (map_alike g h xs all.1)

-- what holds always holds of the elements
pub each : {A : Type 0} (P : A → Type 0) → ((x : A) → P x) → (xs : List A) → AllByRecursion P xs
each P always [] = tt
each P always (x ∷ xs) = (always x, each P always xs)

pub each_so : {A : Type 0} (P Q : A → Type 0) → ((x : A) → P x → Q x) → (xs : List A) → AllByRecursion P xs → AllByRecursion Q xs
each_so P Q so [] all = tt
each_so P Q so (x ∷ xs) all = (so x all.0, each_so P Q so xs all.1)

pub each_joined : {A : Type 0} (P : A → Type 0) (xs ys : List A) → AllByRecursion P xs → AllByRecursion P ys → AllByRecursion P (xs ++ ys)
each_joined P [] ys all rest = rest
each_joined P (x ∷ xs) ys all rest = (all.0, each_joined P xs ys all.1 rest)

pub each_mapped : {A B : Type 0} (P : B → Type 0) (g : A → B) (xs : List A) → AllByRecursion (λ x. P (g x)) xs → AllByRecursion P (map g xs)
each_mapped P g [] all = tt
each_mapped P g (x ∷ xs) all = (all.0, each_mapped P g xs all.1)

-- what holds of each choice from the two lists holds of all of them
pub each_times : {A : Type 0} (P Q R : List A → Type 0) → ((x y : List A) → P x → Q y → R (x ++ y)) → (xs ys : List (List A)) → AllByRecursion P xs → AllByRecursion Q ys → AllByRecursion R (times xs ys)
each_times P Q R so [] ys px qy = tt
each_times P Q R so (x ∷ xs) ys px qy =
    each_joined R (map (λ y. x ++ y) ys) (times xs ys) (each_mapped R (λ y. x ++ y) ys (each_so Q (λ y. R (x ++ y)) (λ y q. so x y px.0 q) ys qy)) (each_times P Q R so xs ys px.1 qy)

-- the choices are mapped as their two parts are
pub map_times : {A B : Type 0} (h g k : List A → List B) (xs ys : List (List A)) → AllByRecursion (λ x. (y : List A) → h (x ++ y) ≡ g x ++ k y) xs → map h (times xs ys) ≡ times (map g xs) (map k ys)
map_times h g k [] ys all = refl
map_times h g k (x ∷ xs) ys all =
    map_joined h (map (λ y. x ++ y) ys) (times xs ys)
    ∙ ap (λ r. r ++ map h (times xs ys)) (map_twice h (λ y. x ++ y) ys ∙ map_alike (λ y. h (x ++ y)) (λ y. g x ++ k y) ys (each _ all.0 ys) ∙ sym (map_twice (λ z. g x ++ z) k ys))
    ∙ ap (λ r. map (λ z. g x ++ z) (map k ys) ++ r) (map_times h g k xs ys all.1)
