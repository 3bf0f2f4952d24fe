use Rattle.std.proofs.Common.{◌≡◌, [], ◌∷◌, ◌++◌, Some, slice_get, length, is_some, refl, sym, ap, ◌∙◌, subst}
use Rattle.std.specs.Option.{option_copied}
use Rattle.std.proofs.lemmas.Option.{slice_get_read}
use Rattle.wac_types_shapes.specs.primitives.Name.{Name, find_name}
use Rattle.wac_merge_classes.specs.entries.Classes.{Entry}
use Rattle.wac_merge_classes.specs.private.entries.Numbering.{Places, class_key, key_for}
use Rattle.wac_merge_classes.proofs.lemmas.entries.Numbers.{seen-again, seen-new}
use Rattle.wac_merge_classes.proofs.entries.classes.Numbering.number.Goals as goal

pub returns-in-Some : goal.returns-in-Some
returns-in-Some c =
    let es = c.args.entries.now in
    let e : Entry = c.index-entries-index.result in
    let at : slice_get es c.args.index ≡ Some e = slice_get_read es (length es) c.args.index e refl c.requires.within c.index-entries-index.is in
    let there : find_name c.args.self.now.names e.name ≡ Some c.in-Some.number.now =
    ap (find_name c.args.self.now.names) (sym c.name-name.ensures) ∙ (sym c.get.ensures ∙ ap option_copied c.in-Some.is) in
    let m = seen-again es c.args.index c.in-Some.number.now e c.args.self.now.keys c.args.self.now.firsts.items c.args.self.now.names at c.requires.keyed c.requires.found there in
    record { keyed = m.keyed; found = m.found; number = m.number }

pub returns-in-Ok : goal.returns-in-Ok
returns-in-Ok c =
    let es = c.args.entries.now in
    let e : Entry = c.index-entries-index.result in
    let at : slice_get es c.args.index ≡ Some e = slice_get_read es (length es) c.args.index e refl c.requires.within c.index-entries-index.is in
    let key : c.as_str.result.now ≡ class_key es e.name =
    c.as_str.ensures.value ∙ (c.in_ok-key.ensures ∙ (ap (λ (n : Name). key_for (is_some (find_name c.args.instances.now n)) n) c.name-name.ensures
    ∙ ap (λ b. key_for b e.name) (c.requires.instances e.name))) in
    let placed : Places c.args.self.now.keys c.args.self.now.firsts.items (class_key es e.name) c.args.index c.place.new.self.keys c.place.new.self.firsts.items c.in_ok-number.number =
    subst (λ (k : Name). Places c.args.self.now.keys c.args.self.now.firsts.items k c.args.index c.place.new.self.keys c.place.new.self.firsts.items c.in_ok-number.number) key
    c.in_ok-number.ensures.placed in
    let names : c.insert.new.self ≡ c.args.self.now.names ++ (e.name, c.in_ok-number.number) ∷ [] =
    c.in-Ok.ensures.inserted ∙ (λ i. c.in_ok-number.ensures.kept i ++ (c.name-name.ensures i, c.in_ok-number.number) ∷ []) in
    let m = seen-new es c.args.index c.in_ok-number.number e c.args.self.now.keys c.place.new.self.keys c.args.self.now.firsts.items c.place.new.self.firsts.items c.args.self.now.names at
    c.requires.keyed c.requires.found placed in
    record { keyed = m.keyed; found = rw names m.found; number = m.number }
