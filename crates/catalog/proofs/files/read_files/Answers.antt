use Rattle.std.proofs.Common.{refl}
use Rattle.catalog.specs.Shape.{file_in, files_in}
use Rattle.catalog.proofs.PartLaws.{parts_each}
use Rattle.catalog.proofs.files.read_files.Goals as goal

pub returns : goal.returns
returns c = parts_each file_in files_in refl (λ _ _ _. refl) c.args.members.now.entries c.members_of.result c.members_of.ensures
