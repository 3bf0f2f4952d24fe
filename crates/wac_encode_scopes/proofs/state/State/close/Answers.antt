use Rattle.std.proofs.Common.{ap, ◌∙◌, ◌++◌, subst}
use Rattle.std.specs.Prelude.{option_to_list}
use Rattle.wac_encode_scopes.proofs.Stepped.{on-ok, both-ok}
use Rattle.wac_encode_scopes.proofs.Opened.{closes-state, closes-into}
use Rattle.wac_encode_scopes.proofs.Calls.{close-answer}
use Rattle.wac_binary.specs.Fits.{TooLargeUnless}
use Rattle.wac_binary.specs.Items.{instance_def, decls}
use Rattle.wac_encode_scopes.specs.declared.scope.Scope.{Scope}
use Rattle.wac_encode_scopes.specs.Contents.{content_of, and_type, declarations_of}
use Rattle.wac_encode_stacks.specs.private.Sizes.{ContentFits}
use Rattle.wac_encode_scopes.proofs.state.State.close.Goals as goal

pub returns-clause-closes : goal.returns-clause-closes
returns-clause-closes c = both-ok c.add_instance_type.result (λ k is h. closes-state c.closing_law.ensures.closes_instance c.args.self.now c.pop.new.self.items c.in-Some.outer c.replace-inner.new.dest c.replace-inner.result c.add_instance_type.new.self k (c.pop.ensures.items ∙ ap (λ o. c.pop.new.self.items ++ option_to_list o) c.in-Some.is) c.replace-inner.ensures.value c.replace-inner.ensures.after c.requires.instance c.requires.imports is h) c.add_instance_type.ensures.index c.add_instance_type.ensures.appended

pub returns-clause-written : goal.returns-clause-written
returns-clause-written c = on-ok c.add_instance_type.result (closes-into c.args.self.now (record c.args.self.now { around = c.pop.new.self; here = c.add_instance_type.new.self }) c.in-Some.outer c.replace-inner.new.dest c.replace-inner.result (c.pop.ensures.items ∙ ap (λ o. c.pop.new.self.items ++ option_to_list o) c.in-Some.is) c.replace-inner.ensures.value c.replace-inner.ensures.after) c.add_instance_type.ensures.appended

pub returns-clause-paid : goal.returns-clause-paid
returns-clause-paid c d b =
    let scope = c.replace-inner.result in
    let outer = c.in-Some.outer in
    let res = c.add_instance_type.result in
    let items = c.pop.ensures.items ∙ ap (λ o. c.pop.new.self.items ++ option_to_list o) c.in-Some.is in
    close-answer c.size_law.ensures.fits d b c.args.self.now (record c.args.self.now { around = c.pop.new.self; here = c.add_instance_type.new.self }) outer res c.requires.instance items (on-ok res (λ is. is ∙ ap (λ (z : Scope). record z { content = and_type (instance_def (decls (declarations_of scope.content))) z.content }) c.replace-inner.ensures.after ∙ ap (λ (z : Scope). record outer { content = and_type (instance_def (decls (declarations_of z.content))) outer.content }) c.replace-inner.ensures.value) c.add_instance_type.ensures.appended)
    (subst (λ (z : Scope). TooLargeUnless res (ContentFits (content_of (and_type (instance_def (decls (declarations_of z.content))) outer.content)))) c.replace-inner.ensures.value
    (subst (λ (z : Scope). TooLargeUnless res (ContentFits (content_of (and_type (instance_def (decls (declarations_of scope.content))) z.content)))) c.replace-inner.ensures.after c.add_instance_type.ensures.too_large))
