use Rattle.std.proofs.Common.{◌≡◌, [], inl, inr, ap, sym, ◌∙◌}
use Rattle.catalog.specs.Contents.{Entry}
use Rattle.catalog.specs.Entries.{seen_entry}
use Rattle.catalog.specs.declared.catalog.FileEntry.{FileEntry}
use Rattle.query_build.specs.Query.{fields_in}
use Rattle.query_build.specs.Refusals.{is_wrong_file}
use Rattle.query_build.proofs.PartLaws.{none_wrong}
use Rattle.rule_ast.specs.SeenRules.{seen_rules}
use Rattle.query_build.proofs.conditions.is_wrong_file.Goals as goal

pub returns-in-Free : goal.returns-in-Free
returns-in-Free c =
    let r = seen_rules c.args.rules.now in
    let nothing : fields_in (seen_entry c.file.result) ≡ [] =
    elim c.in-Free.is [
      | inl e ↦ ap (λ (f : FileEntry). fields_in (seen_entry f)) e
      | inr e ↦ ap (λ (f : FileEntry). fields_in (seen_entry f)) e
    ] in
    sym (ap (λ (e : Entry). is_wrong_file r (fields_in e)) (sym c.file.ensures) ∙ (ap (is_wrong_file r) nothing ∙ none_wrong r.properties))
