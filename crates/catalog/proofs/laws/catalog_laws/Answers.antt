use Rattle.catalog.proofs.ShapeLaws.{one_catalog}
use Rattle.catalog.proofs.laws.catalog_laws.Goals as goal

pub returns : goal.returns
returns c = one_catalog
