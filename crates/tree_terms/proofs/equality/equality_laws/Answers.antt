use Rattle.std.proofs.Common.{◌≡◌, suc, ◌≤◌, true, inl, inr, arith}
use Rattle.std.specs.Prelude.{◌+◌}
use Rattle.derivation.proofs.AlikeLaws.{alike_joined}
use Rattle.derivation.proofs.CountLaws.{count_is}
use Rattle.derivation.proofs.FixedLaws.{fixed_alike}
use Rattle.derivation.proofs.JoinedLaws.{closed_is_all, raise}
use Rattle.derivation.proofs.LinesLaws.{joined_of_lines, lines_of_joined}
use Rattle.rule_ast.specs.SeenRules.{seen_rules}
use Rattle.tree_terms.proofs.ApartLaws.{step-apart}
use Rattle.rule_trees.proofs.RootedLaws.{seen_trules-rooted}
use Rattle.tree_terms.proofs.DisagreeLaws.{disagree_is_on, loop_is_at}
use Rattle.tree_terms.proofs.JoinedTrees.{joined-trees}
use Rattle.rule_trees.proofs.StepLaws.{step-IsTree}
use Rattle.tree_terms.specs.Equality.{is_counted, is_enforcing}
use Rattle.rule_trees.specs.Steps.{step}
use Rattle.tree_terms.proofs.equality.equality_laws.Goals as goal

pub returns-clause-quiet : goal.returns-clause-quiet
returns-clause-quiet c q t u k quiet =
    let s = step (seen_rules c.args.a.now.rules) c.args.catalog.now in
    (λ e. closed_is_all s q quiet e.1, λ p. (k, p))

pub returns-clause-alike : goal.returns-clause-alike
returns-clause-alike c q t u k met alike = alike_joined (step (seen_rules c.args.a.now.rules) c.args.catalog.now) q t u met alike

pub returns-clause-apart : goal.returns-clause-apart
returns-clause-apart c q t u k p which =
    let r = seen_rules c.args.a.now.rules in
    let none = step-apart r c.args.catalog.now (seen_trules-rooted c.args.a.now.rules.trules) c.side_laws.ensures.sides in
    let a = fixed_alike (step r c.args.catalog.now) q (λ l. is_enforcing r l ≡ true) none p in
    elim which [ inl h ↦ a.0 h | inr h ↦ a.1 h ]

pub returns-clause-count : goal.returns-clause-count
returns-clause-count c q k n ts one =
    let r = seen_rules c.args.a.now.rules in
    let e = count_is (step r c.args.catalog.now) q (λ l. is_counted r l ≡ true) k ts (n + 1) one in
    (λ full. let h = e.0 full in omega (arith, h), λ h. e.1 (omega (arith, h)))

pub returns-clause-grows : goal.returns-clause-grows
returns-clause-grows c q t u k p =
    let more : k ≤ suc k = omega arith in
    raise (step (seen_rules c.args.a.now.rules) c.args.catalog.now) q more p

pub returns-clause-lines : goal.returns-clause-lines
returns-clause-lines c q t u k =
    let s = step (seen_rules c.args.a.now.rules) c.args.catalog.now in
    (joined_of_lines s q k t u, λ p. lines_of_joined s q p)

pub returns-clause-disagree : goal.returns-clause-disagree
returns-clause-disagree c q k is =
    let r = seen_rules c.args.a.now.rules in
    disagree_is_on r c.args.catalog.now q (joined-trees r c.args.catalog.now (step-IsTree r c.args.catalog.now c.rules-rules.ensures.accepted) q is) k

pub returns-clause-looping : goal.returns-clause-looping
returns-clause-looping c q is =
    let r = seen_rules c.args.a.now.rules in
    loop_is_at r c.args.catalog.now q (joined-trees r c.args.catalog.now (step-IsTree r c.args.catalog.now c.rules-rules.ensures.accepted) q is)
