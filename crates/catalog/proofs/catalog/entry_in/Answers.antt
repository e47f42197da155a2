use Rattle.std.proofs.Common.{Some, None, ap, ◌∙◌}
use Rattle.catalog.specs.Contents.{listed}
use Rattle.catalog.proofs.FileLaws.{entry_found}
use Rattle.catalog.proofs.catalog.entry_in.Goals as goal

pub returns-in-Some : goal.returns-in-Some
returns-in-Some c =
    ap listed c.fields.ensures ∙ entry_found c.args.files.now c.args.name.now (Some c.in-Some.file.now) c.in-Some.ensures

pub returns-in-None : goal.returns-in-None
returns-in-None c = entry_found c.args.files.now c.args.name.now None c.in-None.ensures
