use Rattle.std.proofs.Common.{◌≡◌, [], ap, sym, ◌∙◌, subst}
use Rattle.catalog.specs.Contents.{entry}
use Rattle.descriptor_types.proofs.SeenLaws.{seen_file}
use Rattle.descriptor_types.specs.Descriptors.{Desc, Layout}
use Rattle.descriptor_types.specs.Labels.{Label, file}
use Rattle.pr_value.specs.Symbols.{Symbol}
use Rattle.pr_value.specs.Trees.{Tree, tree}
use Rattle.query_build.specs.Query.{fields_in, file_desc}
use Rattle.query_build.specs.Refusals.{is_wrong_file}
use Rattle.rule_trees.specs.Trees.{IsDesc, IsTree}
use Rattle.query_build.proofs.BuildLaws.{file-tree, named_nothing}
use Rattle.query_build.proofs.SoundLaws.{file-sound}
use Rattle.rule_ast.specs.SeenRules.{seen_rules}
use Rattle.rule_types.proofs.AcceptedCosts.{accepted-one_cost}
use Rattle.query_build.proofs.building.file_tree.Goals as goal

pub returns-clause-sound : goal.returns-clause-sound
returns-clause-sound c =
    let under = c.args.under.now in
    let r = seen_rules under.rules.now in
    let catalog = under.catalog.now in
    let name = c.args.name.now in
    let desc = c.in_ok-desc.desc in
    let fields = fields_in (entry catalog name) in
    let right = named_nothing (is_wrong_file r fields) name c.requires.right.types in
    let own : desc ≡ file_desc r.properties fields = c.in_ok-desc.ensures ∙ ap (λ (l : Layout). file_desc l fields) under.laid_out in
    let sound = subst (λ (d : Desc). IsDesc r d) (sym own) (file-sound r fields (accepted-one_cost r under.accepted) right) in
    subst (λ (t : Tree Label). IsTree r catalog t)
    (sym (seen_file c.in_ok-name.name desc ∙ ap (λ (n : Symbol). tree (file n desc) []) c.in_ok-name.ensures))
    (file-tree r catalog name desc sound c.requires.right.file)
