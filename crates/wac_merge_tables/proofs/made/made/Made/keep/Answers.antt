use Rattle.std.proofs.Common.{Some, refl, sym, ◌∙◌, ap}
use Rattle.wac_merge_tables.proofs.lemmas.made.MadeForms.{kept_apart, kept_defined, kept_itself, kept_stay, put_there, there_too}
use Rattle.wac_merge_tables.proofs.made.made.Made.keep.Goals as goal

pub returns-clause-there : goal.returns-clause-there
returns-clause-there c =
    let key = c.in_ok-form in
    let kept = c.in_ok-kept in
    kept_defined c.args.self.now c.get_or_put.new.self key.form c.args.id kept.kept kept.ensures.put kept.ensures.is c.args.merged.now c.requires.made (c.requires.there ∙ sym (ap Some key.ensures.shape)) ∙ ap Some key.ensures.shape

pub returns-clause-itself : goal.returns-clause-itself
returns-clause-itself c none =
    let key = c.in_ok-form in
    let kept = c.in_ok-kept in
    kept_itself c.args.self.now c.get_or_put.new.self key.form c.args.id kept.kept kept.ensures.put kept.ensures.is (none key.form key.ensures.named key.ensures.shape)

pub returns-clause-named : goal.returns-clause-named
returns-clause-named c =
    let key = c.in_ok-form in
    let kept = c.in_ok-kept in
    (key.form, key.ensures.named, key.ensures.shape, put_there c.args.self.now c.get_or_put.new.self key.form kept.kept kept.ensures.put key.form refl refl)

pub returns-clause-made : goal.returns-clause-made
returns-clause-made c =
    let key = c.in_ok-form in
    let kept = c.in_ok-kept in
    let old = c.args.self.now in
    let new = c.get_or_put.new.self in
    let at = kept_defined old new key.form c.args.id kept.kept kept.ensures.put kept.ensures.is c.args.merged.now c.requires.made (c.requires.there ∙ sym (ap Some key.ensures.shape)) in
    there_too old new key.form kept.kept kept.ensures.put c.args.merged.now c.requires.made at

pub returns-clause-apart : goal.returns-clause-apart
returns-clause-apart c first t held named apart =
    let key = c.in_ok-form in
    let kept = c.in_ok-kept in
    kept_apart c.args.self.now c.get_or_put.new.self key.form c.args.id kept.kept kept.ensures.put kept.ensures.is first t held (key.ensures.named ∙ named) apart

pub returns-clause-stay : goal.returns-clause-stay
returns-clause-stay c =
    let key = c.in_ok-form in
    let kept = c.in_ok-kept in
    kept_stay c.args.self.now c.get_or_put.new.self key.form c.args.id kept.kept kept.ensures.put kept.ensures.is
