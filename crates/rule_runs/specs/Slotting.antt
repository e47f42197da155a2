-- Slots put together.
use Rattle.std.specs.Prelude.{List, [], ◌++◌}
use Rattle.descriptor_types.specs.Descriptors.{Desc}
use Rattle.rule_runs.specs.declared.slots.Slots.{Slots}

abbrev pub no_slots : Slots
no_slots = record { nodes = []; streams = [] }

-- these, and behind them those of what stands further on in the text
abbrev pub and_slots : Slots → Slots → Slots
and_slots s t = record { nodes = s.nodes ++ t.nodes; streams = s.streams ++ t.streams }

-- the nodes' descriptors, and then the streams' views
abbrev pub all_slots : Slots → List Desc
all_slots s = s.nodes ++ s.streams
