-- The rows of the built-in functions, by how many parameters they have.
use Rattle.std.proofs.Common.{◌≡◌, ℕ, Bool, true, false, ◌||◌, refl, subst}
use Rattle.std.specs.Prelude.{◌==◌, codes}
use Rattle.std.specs.Str.{bytes_eq}
use Rattle.pr_value.specs.Symbols.{Symbol}
use Rattle.pr_value.proofs.Shelf.{bytes_eq-same}
use Rattle.rule_ast.specs.Typing.{builtins, builtin_of}
use Rattle.rule_types.specs.BuiltinCounts.{takes_if}
use Rattle.rule_types.specs.Conditions.{has_signature}

or_false : (a : Bool) → (a || false) ≡ a
or_false true = refl
or_false false = refl

or_five : (a : Bool) → (a || (a || (a || (a || (a || false))))) ≡ a
or_five true = refl
or_five false = refl

or_four : (a b c d : Bool) → (a || (b || (c || (d || false)))) ≡ (a || (b || (c || d)))
or_four true b c d = refl
or_four false true c d = refl
or_four false false true d = refl
or_four false false false d = or_false d

-- two tests agree at a name that they agree on, and elsewhere
at_name : (s f : Symbol) (F G : Symbol → Bool) → F s ≡ G s → (bytes_eq s f ≡ false → F f ≡ G f) → F f ≡ G f
at_name s f F G same otherwise =
    elim (bytes_eq s f) as (λ b. bytes_eq s f ≡ b → F f ≡ G f) [
      | true ↦ λ e. subst (λ g. F g ≡ G g) (bytes_eq-same s f e) same
      | false ↦ otherwise
    ] refl

pub has_signature-builtins : (f : Symbol) (n : ℕ) → has_signature builtins f n ≡ takes_if (builtin_of f) n
has_signature-builtins f n =
    let F : Symbol → Bool = λ g. has_signature builtins g n in
    let G : Symbol → Bool = λ g. takes_if (builtin_of g) n in
    at_name (codes "if") f F G (or_five (3 == n)) (λ e0.
    at_name (codes "not") f F G (or_false (1 == n)) (λ e1.
    at_name (codes "min") f F G (or_false (2 == n)) (λ e2.
    at_name (codes "max") f F G (or_false (2 == n)) (λ e3.
    at_name (codes "log2") f F G (or_false (1 == n)) (λ e4.
    at_name (codes "union") f F G (or_false (2 == n)) (λ e5.
    at_name (codes "minus") f F G (or_false (2 == n)) (λ e6.
    at_name (codes "meet") f F G (or_false (2 == n)) (λ e7.
    at_name (codes "has") f F G (or_false (2 == n)) (λ e8.
    at_name (codes "subset") f F G (or_false (2 == n)) (λ e9.
    at_name (codes "size") f F G (or_false (1 == n)) (λ e10.
    at_name (codes "length") f F G (or_false (1 == n)) (λ e11.
    at_name (codes "at") f F G (or_false (2 == n)) (λ e12.
    at_name (codes "prefix") f F G (or_false (2 == n)) (λ e13.
    at_name (codes "concat") f F G (or_false (2 == n)) (λ e14.
    at_name (codes "elems") f F G (or_false (1 == n)) (λ e15.
    at_name (codes "num_at") f F G (or_four (2 == n) (3 == n) (4 == n) (5 == n)) (λ e16.
    at_name (codes "truth_at") f F G (or_four (2 == n) (3 == n) (4 == n) (5 == n)) (λ e17.
    at_name (codes "sym_at") f F G (or_four (2 == n) (3 == n) (4 == n) (5 == n)) (λ e18.
    at_name (codes "set_at") f F G (or_four (2 == n) (3 == n) (4 == n) (5 == n)) (λ e19.
    at_name (codes "list_at") f F G (or_four (2 == n) (3 == n) (4 == n) (5 == n)) (λ e20.
    simp (e0, e1, e2, e3, e4, e5, e6, e7, e8, e9, e10, e11, e12, e13, e14, e15, e16, e17, e18, e19, e20))))))))))))))))))))))

pub ruleset builtin_laws = (has_signature-builtins)
