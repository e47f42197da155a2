use Rattle.std.proofs.Common.{rules, List, ℕ, ap, ◌∙◌, length}
use Rattle.derivation.proofs.CodeLaws.{either}
use Rattle.derivation.specs.Table.{IsTable}
use Rattle.derivation.proofs.terms.Terms.add.Goals as goal

pub invariant_of-self : goal.invariant_of-self
invariant_of-self g c =
    let made = c.term_laws.ensures.keeps c.self.inside.set.keys (record { label = c.args.label; inputs = c.in_ok-inputs.inputs }) c.self.invariant (search rules) (λ on. ap (λ (w : List ℕ). length w) c.in_ok-inputs.ensures ∙ c.requires.over_one on) in
    either (λ ts. IsTable g.L.Label.on_edge ts) c.self.inside.set.keys c.insert_full.new.self.keys _ c.insert_full.result c.self.invariant made c.insert_full.ensures.keys c.insert_full.ensures.err
