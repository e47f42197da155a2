-- The goals that a goal leads to, and their lists.
use Rattle.std.proofs.Common.{◌≡◌, ℕ, ◌+◌, ◌<◌, true, Some, below_more}
use Rattle.std.specs.Prelude.{slice_get}
use Rattle.best_plan.specs.Moves.{Graph, IsAlternative, AreChoices, AreMoves, Reaches}
use Rattle.k_best.specs.BestLists.{here, along, AllLedUnfolded}
use Rattle.k_best.specs.declared.lists.Lists.{Lists}
use Rattle.k_best.specs.Lists.{IsDone}
use Rattle.k_best.specs.Picks.{AllDone}
use Rattle.k_best.proofs.ListLaws.{all_get}
use Rattle.k_best.proofs.InputLaws.{all_on}

pub led_here : (m : Graph) (g : ℕ) → AllLedUnfolded m g → m.unfolded g ≡ true
led_here m g all = all g (here g)

pub led_input : (m : Graph) (g k i h : ℕ) → AllLedUnfolded m g → IsAlternative m g k → slice_get (m.alternative g k).inputs i ≡ Some h → AllLedUnfolded m h
led_input m g k i h all alt e = λ l leads. all l (along g k i h l alt e leads)

pub input_there : (m : Graph) (g k i h : ℕ) → AreChoices m → IsAlternative m g k → slice_get (m.alternative g k).inputs i ≡ Some h → h < m.goals
input_there m g k i h laws alt e = all_get (λ i. i < m.goals) (m.alternative g k).inputs i h (laws.inputs_there g k alt) e

pub input_ranked : (m : Graph) (rank : ℕ → ℕ) (reaches : Reaches) (g k i h : ℕ) → AreMoves m rank reaches → IsAlternative m g k → slice_get (m.alternative g k).inputs i ≡ Some h → rank h < rank g
input_ranked m rank reaches g k i h laws alt e = all_get (λ i. rank i < rank g) (m.alternative g k).inputs i h (laws.ranked g k alt) e

-- the inputs of one more alternative have lists
pub done_more : (m : Graph) (g n : ℕ) (old new : Lists) → ((h : ℕ) → IsDone old.spans h → IsDone new.spans h) → ((k : ℕ) → k < n → AllDone m old g k) → AllDone m new g n
    → (k : ℕ) → k < n + 1 → AllDone m new g k
done_more m g n old new kept before last = below_more (AllDone m new g) n (λ k h. all_on (IsDone old.spans) (IsDone new.spans) kept (m.alternative g k).inputs (before k h)) last
