-- A property that a statement gives a value, and an operator from which a rule leads to `Null`.
use Rattle.std.proofs.Common.{◌≡◌, Bool, true, false, ◌&&◌, ◌||◌, List, [], ◌∷◌, ◌++◌, refl, ap, sym, ◌∙◌}
use Rattle.std.proofs.lemmas.List.Folds.{list_any-append}
use Rattle.std.specs.Cmp.{decided}
use Rattle.std.specs.Cmp.Lexicographic.{bytes_decides}
use Rattle.std.specs.Str.{bytes_eq}
use Rattle.pr_value.specs.Symbols.{Symbol}
use Rattle.pr_value.specs.SymbolSets.{contains}
use Rattle.pr_value.specs.Trees.{Tree, label}
use Rattle.rule_ast.specs.Roles.{assigns, has_root, is_null, leads_to_null}
use Rattle.rule_ast.specs.Seen.{left_input_level, left_level, seen_irule, seen_stmt}
use Rattle.rule_ast.specs.Syntax.{LeftLabel}
use Rattle.rule_ast.specs.declared.expr.Expr as expr
use Rattle.rule_ast.specs.declared.expr.Stmt as stmt
use Rattle.rule_ast.specs.declared.expr.Stmt.TheVariants as stmts
use Rattle.rule_ast.specs.declared.parts.IRule.{IRule}
use Rattle.rule_ast.specs.declared.sides.Left.{out-Left}
use Rattle.rule_ast.specs.declared.sides.LeftIn.TheFolds.{fold_out-Left}

both_plain : (a : Bool) → (a || false) ≡ (a && true)
both_plain true = refl
both_plain false = refl

-- it is pushed where the descriptor is one of these
pub given-pushed : (ds old new : List Symbol) (s : stmt.Stmt) (d q x p : Symbol) (e : expr.Expr) (found : Bool) → s ≡ stmts.Set d q e → found ≡ contains ds d → found ≡ true → x ≡ q → new ≡ old ++ x ∷ []
    → contains new p ≡ (contains old p || assigns ds p (seen_stmt s))
given-pushed ds old new s d q x p e found is has known same pushed =
    ap (λ ss. contains ss p) pushed ∙ list_any-append (bytes_eq p) old (x ∷ [])
    ∙ ap (λ b. contains old p || b) (
    ap (λ y. bytes_eq p y || false) same ∙ ap (λ b. b || false) ((decided bytes_eq bytes_decides).symm p q) ∙ both_plain (bytes_eq q p)
    ∙ ap (λ b. bytes_eq q p && b) (sym known ∙ has) ∙ sym (ap (λ t. assigns ds p (seen_stmt t)) is)
    )

or_none : (a : Bool) → (a || false) ≡ a
or_none true = refl
or_none false = refl

-- it is pushed where the rule leads to `Null`
pub root-pushed : (rule : IRule) (old new : List Symbol) (x op : Symbol) (null : Bool) → null ≡ is_null rule.right.alg → null ≡ true → x ≡ (out-Left rule.left).op → new ≡ old ++ x ∷ []
    → contains new op ≡ (contains old op || leads_to_null op (seen_irule rule))
root-pushed rule old new x op null is known same pushed =
    let root = (out-Left rule.left).op in
    ap (λ ss. contains ss op) pushed ∙ list_any-append (bytes_eq op) old (x ∷ [])
    ∙ ap (λ b. contains old op || b) (
    ap (λ y. bytes_eq op y || false) same ∙ or_none (bytes_eq op root) ∙ (decided bytes_eq bytes_decides).symm op root
    ∙ ap (λ b. b && bytes_eq root op) (sym known ∙ is)
    ∙ ap (λ t. is_null rule.right.alg && has_root op (label t)) (sym (fold_out-Left (Tree LeftLabel) (Tree LeftLabel) left_input_level left_level rule.left))
    )
