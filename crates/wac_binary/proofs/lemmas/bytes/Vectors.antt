-- Lists of parts, seen through what the parts mean.
use Rattle.std.proofs.Common.{◌≡◌, ℕ, List, [], ◌∷◌, ◌++◌, length, map, refl, ap, suc}
use Rattle.std.specs.List.{flat_map}
use Rattle.wac_types_shapes.specs.declared.primitives.core_types.CoreType.{CoreType}
use Rattle.wac_binary.specs.Bytes.{vector, core_val}
use Rattle.wac_binary.specs.Leb.{unsigned}

length_map : {A B : Type 0} (g : A → B) (xs : List A) → length (map g xs) ≡ length xs
length_map g [] = refl
length_map g (x ∷ xs) = ap suc (length_map g xs)

flat_map_map : {A B : Type 0} (f : B → List ℕ) (g : A → B) (xs : List A) → flat_map f (map g xs) ≡ flat_map (λ x. f (g x)) xs
flat_map_map f g [] = refl
flat_map_map f g (x ∷ xs) = ap (λ t. f (g x) ++ t) (flat_map_map f g xs)

pub vector_map : {A B : Type 0} (f : B → List ℕ) (g : A → B) (xs : List A) → vector f (map g xs) ≡ unsigned (length xs) ++ flat_map (λ x. f (g x)) xs
vector_map f g xs = λ i. unsigned (length_map g xs i) ++ flat_map_map f g xs i

-- a core value type is one byte
pub length_core_values : (ts : List CoreType) → length (flat_map core_val ts) ≡ length ts
length_core_values [] = refl
length_core_values (t ∷ ts) = ap suc (length_core_values ts)
