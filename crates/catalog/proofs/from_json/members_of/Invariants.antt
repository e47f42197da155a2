use Rattle.std.proofs.Common.{◌≡◌, Some, List, ◌++◌, string_bytes}
use Rattle.std.specs.List.{AllZip}
use Rattle.serde_json.specs.View.{view}
use Rattle.serde_json.proofs.Views.{Entry}
use Rattle.catalog.proofs.from_json.members_of.Given as goal

-- those so far
abbrev pub invariant-loop-name : goal.invariant-loop-name
invariant-loop-name g l = record {
  can_next : (goal.iterator-loop-name g).can_next l.name-iterator;
  is_finite : (goal.iterator-loop-name g).is_finite l.name-iterator;
  so_far : (done : List Entry) × (l.members.entries ≡ done ++ l.name-iterator)
      × AllZip (λ e x. g.T.FromMember.gives (string_bytes e.0) (view e.1) (Some x)) done l.read.items;
}
