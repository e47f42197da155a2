use Rattle.std.proofs.Common.{◌≡◌, arith, rules, ap}
use Rattle.std.proofs.lemmas.List.Sorted.{IsPermutation-sym, Contains-permutation, IsNonDecreasingBy-from_sort_by_key}
use Rattle.replan.specs.declared.ranked.Ranked.{Ranked}
use Rattle.replan.proofs.RankLaws.{ranked, all_more, only_more}
use Rattle.replan.proofs.ranked.by_rank.Goals as goal

pub loop-goal-preserved : goal.loop-goal-preserved
loop-goal-preserved g c =
    let rank = g.M.Moves.rank c.args.moves.now in
    let x : Ranked = record { rank = c.rank-rank.result; goal = c.loop-goal.goal } in
    let is : x ≡ ranked rank c.loop-goal.goal = ap (λ r. record { rank = r; goal = c.loop-goal.goal }) c.rank-rank.ensures in
    record {
      all = all_more rank c.loop-goal.goal x is c.loop-goal.goals.items c.push.new.self.items c.in_ok-push.ensures.items c.loop-goal.invariant.all;
      only = only_more rank c.loop-goal.goal x is c.loop-goal.goals.items c.push.new.self.items c.in_ok-push.ensures.items c.loop-goal.invariant.only;
    }

pub returns : goal.returns
returns g c =
    let rank = g.M.Moves.rank c.args.moves.now in
    let old = c.loop-goal.goals.items in let new = c.sort_unstable_by_key.new.self.items in
    let same = c.sort_unstable_by_key.ensures.permutation in record {
      all = λ h l. Contains-permutation old new (ranked rank h) same (c.loop-goal.invariant.all h (omega (arith, l, c.goals-goal-end.ensures, c.loop-goal-test.false)));
      only = λ r k. (let w = c.loop-goal.invariant.only r (Contains-permutation new old r (IsPermutation-sym old new same) k) in
          (omega (arith, w.0, c.goals-goal-end.ensures, c.loop-goal.auto.goal-end), w.1));
      rises = IsNonDecreasingBy-from_sort_by_key (λ (r : Ranked). r.rank) _ c.sort_unstable_by_key.ensures.sorted (λ a r q k. search rules);
    }
