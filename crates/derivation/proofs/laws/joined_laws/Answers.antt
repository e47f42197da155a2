use Rattle.std.proofs.Common.{◌≡◌, true, inl, inr}
use Rattle.derivation.proofs.JoinedLaws.{closed_is_all}
use Rattle.derivation.proofs.AlikeLaws.{alike_joined}
use Rattle.derivation.proofs.FixedLaws.{fixed_alike}
use Rattle.derivation.proofs.CountLaws.{count_is}
use Rattle.derivation.proofs.LinesLaws.{joined_of_lines, lines_of_joined}
use Rattle.derivation.proofs.laws.joined_laws.Goals as goal

pub returns-clause-closed : goal.returns-clause-closed
returns-clause-closed g c q t u k closed = (λ e. closed_is_all (g.S.Steps.stepped c.args._steps.now) q closed e.1, λ p. (k, p))

pub returns-clause-alike : goal.returns-clause-alike
returns-clause-alike g c q t u k met alike = alike_joined (g.S.Steps.stepped c.args._steps.now) q t u met alike

pub returns-clause-apart : goal.returns-clause-apart
returns-clause-apart g c fixed q t u k none p which =
    let a = fixed_alike (g.S.Steps.stepped c.args._steps.now) q (λ l. fixed l ≡ true) none p in elim which [ inl h ↦ a.0 h | inr h ↦ a.1 h ]

pub returns-clause-count : goal.returns-clause-count
returns-clause-count g c counts q k n ts one = count_is (g.S.Steps.stepped c.args._steps.now) q (λ l. counts l ≡ true) k ts n one

pub returns-clause-lines : goal.returns-clause-lines
returns-clause-lines g c q t u k = (joined_of_lines (g.S.Steps.stepped c.args._steps.now) q k t u, λ p. lines_of_joined (g.S.Steps.stepped c.args._steps.now) q p)
