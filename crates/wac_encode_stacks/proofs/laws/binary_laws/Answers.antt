use Rattle.wac_encode_stacks.proofs.laws.binary_laws.Goals as goal

pub returns : goal.returns
returns c = record {
  reads = record {
    item_after = c.law.ensures.one_more;
    item_meant = c.has_meaning_law.ensures.one_more;
    decl_after = c.scope_law.ensures.one_more;
    decl_meant = c.has_meaning_law.ensures.declared_one_more;
    reach = c.has_meaning_law.ensures.reach;
    around = c.scope_law.ensures.around;
    still_meant = c.has_meaning_law.ensures.declared_kept;
    root_grows = c.scope_law.ensures.root_grows;
    root_imports = c.listed_law.ensures.scope_imports;
    root_exports = c.listed_law.ensures.scope_exports;
    imports_after = c.listed_law.ensures.imports;
    thing_new = c.law.ensures.new;
    things_counted = c.law.ensures.counted;
    types_counted = c.law.ensures.types_counted;
    instances_counted = c.law.ensures.instances_counted;
    core_types_counted = c.law.ensures.core_types_counted;
    types_declared = c.scope_law.ensures.types_counted;
    instances_declared = c.scope_law.ensures.instances_counted;
    core_types_declared = c.scope_law.ensures.core_types_counted;
  };
}
