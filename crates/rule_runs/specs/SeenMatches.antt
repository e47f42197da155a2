-- How the definitions see a match of the code.
use Rattle.std.specs.Prelude.{map}
use Rattle.rule_runs.specs.Matching.{Matched}
use Rattle.rule_runs.specs.declared.matching.Matched as rust

-- where things are seen so
abbrev pub seen_matched : {A B : Type 0} → (A → B) → rust.Matched A → Matched B
seen_matched seen m = record { slots = m.slots; streams = map seen m.streams.items }
