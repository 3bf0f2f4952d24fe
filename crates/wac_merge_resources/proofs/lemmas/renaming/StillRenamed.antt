-- What became of types and resources stays so in a collection that begins with it.
use Rattle.std.proofs.Common.{List, ◌∙◌}
use Rattle.wac_types_shapes.specs.primitives.Name.{Name}
use Rattle.wac_types_collection.specs.collection.Collection.{Collection, IsWellFormed}
use Rattle.wac_types_collection.specs.collection.Held.{resolved}
use Rattle.wac_types_shapes.specs.declared.shapes.component.ResourceId.{ResourceId}
use Rattle.wac_types_shapes.specs.declared.shapes.component.FuncTypeId.{FuncTypeId}
use Rattle.wac_types_shapes.specs.declared.shapes.component.«Type».{«Type» as AnyType}
use Rattle.wac_merge_classes.specs.terms.Became.{AreFresh, IsNew, became}
use Rattle.wac_merge_classes.specs.entries.Bindings.{ClassBindings}
use Rattle.wac_merge_classes.specs.terms.Renaming.{AreEnds, IsRenamed}
use Rattle.wac_types_collection.specs.private.subtyping.Extended.{IsExtended}
use Rattle.wac_merge_resources.specs.renaming.MadeOf.{AreMade, IsFuncMadeOf}
use Rattle.wac_merge_tables.specs.declared.made.made.Made.{Made}
use Rattle.wac_merge_resources.specs.private.renaming.RenamedTypes.{AreRenamed, CanRename, CanRenameAll, becomes}
use Rattle.wac_merge_classes.specs.terms.Writing.{IsAliasOf}
use Rattle.wac_merge_resources.specs.declared.renaming.became.Became.{Became}
use Rattle.wac_merge_classes.specs.declared.terms.fresh.Fresh.{Fresh}
use Rattle.wac_merge_resources.specs.declared.renaming.renamer.Renamed.{Renamed}
use Rattle.wac_merge_resources.specs.declared.renaming.renamer.Renaming.{Renaming}
use Rattle.wac_merge_classes.specs.declared.terms.parts.Union.{Union}
use Rattle.wac_merge_resources.specs.declared.values.named.NamedTypes.{NamedTypes}
use Rattle.wac_merge_tables.proofs.lemmas.made.Extending.{extended_twice, kept_item, same_end, same_name_of, same_resource, still_holds, still_resource, still_there}

-- ---- what was shown of a collection, in one that begins with it
module _ (m more : Collection) (x : IsExtended m more) where
  pub still_renamed : (c : Collection) (f : ResourceId → ResourceId) (t u : AnyType) → IsRenamed c m f t u → IsRenamed c more f t u
  still_renamed c f t u r = record {
    held = still_holds m more x u r.held;
    placed = λ n around fits. x.trees.1 around u r.held ∙ r.placed n around fits;
    named = x.trees.0 u r.held ∙ r.named;
  }

  pub still_made : (c : Collection) (t : NamedTypes) (made : Made) → AreMade c t m made → AreMade c t more made
  still_made c t made are = record { there = still_there m more x made are.there; apart = are.apart }

  pub still_all_renamed : (s : Renaming) (memo : Renamed) → AreRenamed m s memo → AreRenamed more s memo
  still_all_renamed s memo r = record {
    defined = λ d e is. still_renamed s.types.now (becomes s) _ _ (r.defined d e is);
    funcs = λ f g is. still_renamed s.types.now (becomes s) _ _ (r.funcs f g is);
    made = still_made s.types.now s.became.now.named.now memo.made r.made;
    once = r.once;
    once_funcs = λ f g is. still_made_func f g (r.once_funcs f g is);
  } where
    still_made_func : (f g : FuncTypeId) → IsFuncMadeOf s.types.now m (becomes s) s.became.now.named.now memo.made f g → IsFuncMadeOf s.types.now more (becomes s) s.became.now.named.now memo.made f g
    still_made_func f g h = record { before = h.before; after = h.after; is = h.is; became = kept_item m.funcs more.funcs x.kept.funcs g.0 h.after h.became; outlined = h.outlined; values = h.values; once = h.once }

  pub still_alias : (n : Name) (q a : ResourceId) → IsAliasOf m n q a → IsAliasOf more n q a
  still_alias n q a r = record { there = still_resource m more x a r.there; is = same_resource m more x a r.there ∙ r.is }

  module _ (wf : IsWellFormed m) where
    pub still_ends : (c : Collection) (f : ResourceId → ResourceId) → AreEnds c m f → AreEnds c more f
    still_ends c f ends r h =
        let e = ends r h in
        let q = f (resolved c r) in
        (still_resource m more x q e.0, same_end m wf more x q e.0 ∙ e.1, same_name_of m more x q e.0 ∙ e.2)

    pub still_can : (s : Renaming) → CanRename m s → CanRename more s
    still_can s k = record {
      extended = extended_twice s.types.now m more k.extended x;
      ends = still_ends s.types.now (becomes s) k.ends;
      bound = k.bound;
      outward = k.outward;
      around = k.around;
      within = k.within;
    }

    pub still_can_all : (c : Collection) (b : Became) → CanRenameAll m c b → CanRenameAll more c b
    still_can_all c b k = record {
      extended = extended_twice c m more k.extended x;
      ends = λ part is. still_ends c (became c b.parts.now b.bindings.now b.fresh.now part) (k.ends part is);
      bound = k.bound;
      outward = k.outward;
      around = k.around;
    }

    pub still_new : (c : Collection) (q : ResourceId) (n : Name) → IsNew c m q n → IsNew c more q n
    still_new c q n k = record {
      added = k.added;
      there = still_resource m more x q k.there;
      itself = same_end m wf more x q k.there ∙ k.itself;
      named = same_name_of m more x q k.there ∙ k.named;
    }

    pub still_fresh : (c : Collection) (us : List Union) (bs : ClassBindings) (f : Fresh) → AreFresh c us bs f m → AreFresh c us bs f more
    still_fresh c us bs f k = record {
      listed = k.listed;
      own = λ u n q is. still_new c q n (k.own u n q is);
      bound = k.bound;
      whole = λ j q is. let w = k.whole j q is in (w.0, w.1, still_new c q _ w.2);
      once = k.once;
      once_whole = k.once_whole;
      apart = k.apart;
    }
