-- The helpers so far.
use Rattle.std.proofs.Common.{◌≡◌, ℕ, ◌+◌, ◌<◌, List, [], ◌∷◌, ◌++◌, length, take, get_or, map, refl, ap, sym, ◌∙◌}
use Rattle.std.proofs.lemmas.List.{map-append, take_more}
use Rattle.rule_ast.specs.Seen.{seen_helper}
use Rattle.rule_ast.specs.Syntax.{Helper}
use Rattle.rule_ast.specs.Typing.{Signature, helper_signature, signatures_before, signatures_of}
use Rattle.rule_ast.specs.declared.parts.Helper as rust

-- a further helper is the first that is looked at
signatures_before-append : (ss : List Signature) (hs : List Helper) (h : Helper) → signatures_before ss (hs ++ h ∷ []) ≡ helper_signature h ∷ signatures_before ss hs
signatures_before-append ss [] h = refl
signatures_before-append ss (g ∷ hs) h = signatures_before-append (helper_signature g ∷ ss) hs h

pub more_helpers : (hs : List rust.Helper) (i : ℕ) (h : rust.Helper) → i < length hs → h ≡ get_or hs i h → signatures_of (map seen_helper (take (i + 1) hs)) ≡ helper_signature (seen_helper h) ∷ signatures_of (map seen_helper (take i hs))
more_helpers hs i h within is =
    ap (λ gs. signatures_of (map seen_helper gs)) (take_more hs i h within ∙ ap (λ g. take i hs ++ g ∷ []) (sym is))
    ∙ ap signatures_of (map-append seen_helper (take i hs) (h ∷ []))
    ∙ signatures_before-append [] (map seen_helper (take i hs)) (seen_helper h)

pub ruleset call_laws = (more_helpers)
