use Rattle.std.proofs.Common.{rules}
use Rattle.derivation.proofs.LogLaws.{more_terms}
use Rattle.derivation.proofs.CodeLaws.{appended}
use Rattle.derivation.proofs.log.push_line.Goals as goal

pub returns-in-Err-clause-log : goal.returns-in-Err-clause-log
returns-in-Err-clause-log g c = more_terms (g.S.Steps.stepped c.args.steps.now) c.args.terms.now c.line_of.new.terms c.args.query c.args.lines.now.items c.requires c.line_of.ensures.kept

pub returns-in-Ok-None-clause-log : goal.returns-in-Ok-None-clause-log
returns-in-Ok-None-clause-log g c = more_terms (g.S.Steps.stepped c.args.steps.now) c.args.terms.now c.line_of.new.terms c.args.query c.args.lines.now.items c.requires c.line_of.ensures.kept

pub returns-in-Ok-Some-clause-log : goal.returns-in-Ok-Some-clause-log
returns-in-Ok-Some-clause-log g c = appended (g.S.Steps.stepped c.args.steps.now) c.args.terms.now c.line_of.new.terms c.args.query c.args.lines.now.items c.append.new.lines.items c.args.why c.in-Ok-Some.line c.append.result
    c.requires c.line_of.ensures.kept (search rules) c.append.ensures.ok c.append.ensures.err
