use Rattle.std.proofs.Common.{◌≡◌}
use Rattle.serde_json.specs.View.{members_view}
use Rattle.catalog.specs.Shape.{are_arrays}
use Rattle.catalog.proofs.tables.are_arrays.Given as goal

-- the rest decides
abbrev pub invariant-loop-name : goal.invariant-loop-name
invariant-loop-name l = record {
  can_next : (goal.iterator-loop-name).can_next l.name-iterator;
  is_finite : (goal.iterator-loop-name).is_finite l.name-iterator;
  rest : are_arrays (members_view l.members.entries) ≡ are_arrays (members_view l.name-iterator);
}
