-- What an answer that is there, or a test, came from.
use Rattle.std.proofs.Common.{◌≡◌, Bool, true, false, cond, Option, Some, None, refl}
use Rattle.std.specs.Option.{option_map}
use Rattle.std.proofs.lemmas.Option.{same_Some}

-- a mapped answer comes from an answer
pub mapped : {A B P : Type 0} (f : A → B) (o : Option A) (y : B) → option_map f o ≡ Some y → ((x : A) → o ≡ Some x → f x ≡ y → P) → P
mapped f None y e go = absurd (cc)
mapped f (Some x) y e go = go x refl (same_Some _ _ e)

-- one of the two arms was taken
pub chosen : {A C : Type 0} (b : Bool) (x y z : A) → cond b x y ≡ z → (b ≡ true → x ≡ z → C) → (b ≡ false → y ≡ z → C) → C
chosen true x y z e yes_go no_go = yes_go refl e
chosen false x y z e yes_go no_go = no_go refl e

-- an answer is there, or it is not
pub none_some : {A : Type 0} (x : A) → None ≡ Some x → ⊥
none_some x e = cc
