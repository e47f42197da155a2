-- All goals that a goal leads to are unfolded where all goals are.
use Rattle.std.proofs.Common.{◌≡◌, ℕ, ◌<◌, List, length, true, refl}
use Rattle.best_plan.specs.Moves.{Graph, AreChoices, IsAllUnfolded}
use Rattle.k_best.specs.BestLists.{LeadsTo, here, along, AllLedUnfolded}
use Rattle.k_best.proofs.LeadLaws.{input_there}
use Rattle.prairie_tests.specs.declared.ways.Way.{Way}
use Rattle.prairie_tests.specs.Listed.{graph_of}
use Rattle.prairie_tests.specs.Laws.{choices_of}

led : (m : Graph) → AreChoices m → IsAllUnfolded m → (g l : ℕ) → g < m.goals → LeadsTo m g l → m.unfolded l ≡ true
led m laws all _ _ there (here g) = all g there
led m laws all _ _ there (along g k i h l alt e more) = led m laws all h l (input_there m g k i h laws alt e) more

pub all_led : (all : List (List Way)) (opened : List ℕ) (g : ℕ) → IsAllUnfolded (graph_of all opened) → g < length all → AllLedUnfolded (graph_of all opened) g
all_led all opened g unfolded there = λ l leads. led (graph_of all opened) (choices_of all opened) unfolded g l there leads
