use Rattle.catalog.proofs.TableLaws.{tables_each}
use Rattle.catalog.proofs.tables.read_tables.Goals as goal

pub returns : goal.returns
returns c = tables_each c.args.members.now.entries c.members_of.result c.members_of.ensures
