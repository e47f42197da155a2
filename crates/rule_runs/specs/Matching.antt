-- What a left side matches, in anything that has a root and inputs: trees, terms of a log.
use Rattle.std.specs.Prelude.{ℕ, ◌==◌, Bool, false, List, [], ◌∷◌, ◌++◌, Option, Some, None, option_map, option_and_then, if◌then◌else◌}
use Rattle.pr_value.specs.Trees.{node, Trees, nil, cons}
use Rattle.descriptor_types.specs.Descriptors.{Desc}
use Rattle.rule_runs.specs.Sides.{Side, SideLabel, operator, stream}
use Rattle.rule_runs.specs.Slotting.{no_slots, and_slots}
use Rattle.rule_runs.specs.declared.slots.Slots.{Slots}

-- what a rule sees, and what its streams stand for, in the order of the text
pub record Matched (A : Type 0) : Type 0 where
  pub slots : Slots
  pub streams : List A

-- the number of the operator at the root, where one stands there; the root's descriptor, whole; what
-- is seen of it where a stream stands for it; and the inputs
pub record Rooted (A : Type 0) : Type 0 where
  pub op : A → Option ℕ
  pub whole : A → Desc
  pub view : A → Desc
  pub inputs : A → List A

abbrev pub no_match : {A : Type 0} → Matched A
no_match = record { slots = no_slots; streams = [] }

abbrev pub and_match : {A : Type 0} → Matched A → Matched A → Matched A
and_match m n = record { slots = and_slots m.slots n.slots; streams = m.streams ++ n.streams }

-- with the descriptor of the node above
abbrev pub with_node : {A : Type 0} → Desc → Matched A → Matched A
with_node d m = record { slots = record { nodes = d ∷ m.slots.nodes; streams = m.slots.streams }; streams = m.streams }

-- a stream, of which this is seen
abbrev pub one_stream : {A : Type 0} → Desc → A → Matched A
one_stream v t = record { slots = record { nodes = []; streams = v ∷ [] }; streams = t ∷ [] }

abbrev pub is_number : Option ℕ → ℕ → Bool
is_number None n = false
is_number (Some m) n = m == n

-- operators stand for the same operators over as many inputs, and streams for anything
module _ {A : Type 0} (roots : Rooted A) where
  abbrev mutual
    pub matched : Side → A → Option (Matched A)
    matched (node (stream n) ls) t = Some (one_stream (roots.view t) t)
    matched (node (operator op) ls) t =
        if is_number (roots.op t) op then option_map (with_node (roots.whole t)) (all_matched ls (roots.inputs t)) else None

    pub all_matched : Trees SideLabel → List A → Option (Matched A)
    all_matched nil [] = Some no_match
    all_matched nil (t ∷ ts) = None
    all_matched (cons l ls) [] = None
    all_matched (cons l ls) (t ∷ ts) =
        option_and_then (λ m. option_map (and_match m) (all_matched ls ts)) (matched l t)
