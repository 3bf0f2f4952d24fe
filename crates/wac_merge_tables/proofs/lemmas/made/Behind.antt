-- What adders answer for what mentions held values alone, and what they put behind the rest.
use Rattle.std.proofs.Common.{◌≡◌, ◌&&◌, true, List, [], ◌∷◌, ◌++◌, length, Option, Some, None, Err, refl, ap, sym, ◌∙◌, subst}
use Rattle.wac_types_collection.specs.collection.Collection.{Collection, holds_all, item_at, size, value_types, with_defined, with_func}
use Rattle.wac_types_collection.specs.collection.Uses.{AnswersBy, mention_fault, unless}
use Rattle.wac_types_collection.specs.declared.collection.collection.AddTypeError.{AddTypeError}
use Rattle.wac_types_collection.specs.declared.collection.collection.AddTypeError.TheVariants as fault
use Rattle.wac_types_collection.specs.declared.collection.collection.Held.{Held}
use Rattle.wac_types_shapes.specs.declared.shapes.component.DefinedType.{DefinedType}
use Rattle.wac_types_shapes.specs.declared.shapes.component.DefinedTypeId.{DefinedTypeId}
use Rattle.wac_types_shapes.specs.declared.shapes.component.FuncType.{FuncType}
use Rattle.wac_types_shapes.specs.declared.shapes.component.FuncTypeId.{FuncTypeId}
use Rattle.wac_types_shapes.specs.declared.shapes.component.ValueType.{ValueType}
use Rattle.wac_types_collection.specs.subtyping.TreeLaws.{GrowthKeepsTrees}
use Rattle.wac_types_collection.specs.private.subtyping.Extended.{AreHeldValues}
use Rattle.wac_merge_tables.specs.made.Made.{IsDefinedBehind, IsFuncBehind}
use Rattle.wac_merge_tables.proofs.lemmas.made.Extending.{extended_defined, extended_func}

all_held : (c : Collection) (vs : List ValueType) → AreHeldValues c vs → holds_all c (value_types vs) ≡ true
all_held c [] h = refl
all_held c (v ∷ vs) h = ap (λ b. b && holds_all c (value_types vs)) h.0 ∙ all_held c vs h.1

-- nothing stands against what mentions held values alone
none_stands : (c : Collection) (vs : List ValueType) → AreHeldValues c vs → mention_fault c (value_types vs) ≡ None
none_stands c vs h = ap (λ b. unless b fault.NotHeld) (all_held c vs h)

answers_alone : (Id : Type 0) (o : Option AddTypeError) (e : AddTypeError) → o ≡ None → AnswersBy {Id = Id} o (Err e) → e ≡ fault.OutOfMemory
answers_alone Id o fault.OutOfMemory none h = refl
answers_alone Id o fault.NotHeld none h = cc
answers_alone Id o fault.UsedInterfaceUnnamed none h = cc
answers_alone Id o fault.UsedTypeMissing none h = cc
answers_alone Id o fault.UsedTypeDiffers none h = cc
answers_alone Id o fault.ResourceMisnamed none h = cc

-- an adder of what mentions held values alone refuses for want of memory alone
pub memory_alone : (Id : Type 0) (c : Collection) (vs : List ValueType) (e : AddTypeError) → AreHeldValues c vs → AnswersBy {Id = Id} (mention_fault c (value_types vs)) (Err e) → e ≡ fault.OutOfMemory
memory_alone Id c vs e held h = answers_alone Id (mention_fault c (value_types vs)) e (none_stands c vs held) h

last_item : {A : Type 0} (xs : List (Held A)) (h : Held A) → item_at (xs ++ h ∷ []) (length xs) ≡ Some h.item
last_item [] h = refl
last_item (x ∷ xs) h = last_item xs h

pub defined_behind : (c m : Collection) (d : DefinedType) (id : DefinedTypeId) → GrowthKeepsTrees c → id.0 ≡ length c.defined → m ≡ with_defined c d → IsDefinedBehind c m d id
defined_behind c m d id growth at is = subst (λ (k : Collection). IsDefinedBehind c k d id) (sym is) (record {
  extended = extended_defined c growth d;
  there = ap (item_at (with_defined c d).defined) at ∙ last_item c.defined (record { item = d; before = size c });
})

pub func_behind : (c m : Collection) (f : FuncType) (id : FuncTypeId) → GrowthKeepsTrees c → id.0 ≡ length c.funcs → m ≡ with_func c f → IsFuncBehind c m f id
func_behind c m f id growth at is = subst (λ (k : Collection). IsFuncBehind c k f id) (sym is) (record {
  extended = extended_func c growth f;
  there = ap (item_at (with_func c f).funcs) at ∙ last_item c.funcs (record { item = f; before = size c });
})
