use Rattle.value_json.proofs.ValueLaws.{symbols_each}
use Rattle.value_json.proofs.value_reading.symbols_of.Goals as goal

pub returns : goal.returns
returns c = symbols_each c.args.items.now c.items_of.result c.items_of.ensures
