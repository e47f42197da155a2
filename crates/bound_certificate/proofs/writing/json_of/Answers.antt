use Rattle.std.proofs.Common.{◌≡◌, ℕ, ◌≤◌, true, ap, sym, ◌∙◌, subst, arith}
use Rattle.std.specs.List.{list_all}
use Rattle.serde_json.specs.Data.{depth, object}
use Rattle.serde_json.specs.Read.{max_depth}
use Rattle.pr_value.specs.Symbols.{is_symbol}
use Rattle.bound_certificate.proofs.CertificateLaws.{says_again, used_again}
use Rattle.bound_certificate.proofs.DepthLaws.{certificate_most}
use Rattle.bound_certificate.proofs.writing.json_of.Goals as goal

low : (n : ℕ) → n ≤ 8 → n ≤ 127
low n h = omega (arith, h)

pub returns-clause-shallow : goal.returns-clause-shallow
returns-clause-shallow c =
    subst (λ d. depth d ≤ max_depth) (sym (c.from.ensures ∙ ap object c.in_ok-members.ensures.written)) (low _ (certificate_most _ c.args.c.now))

pub returns-clause-says : goal.returns-clause-says
returns-clause-says c =
    says_again c.args.c.now (subst (λ ss. list_all is_symbol ss ≡ true) c.in_ok-names.ensures c.in_ok-members.ensures.symbols) c.in_ok-members.ensures.fine

pub returns-clause-used : goal.returns-clause-used
returns-clause-used c =
    used_again c.args.c.now (subst (λ ss. list_all is_symbol ss ≡ true) c.in_ok-names.ensures c.in_ok-members.ensures.symbols)
