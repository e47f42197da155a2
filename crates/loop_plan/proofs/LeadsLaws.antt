-- What goals lead to, as more is unfolded.
use Rattle.std.proofs.Common.{ℕ, List, [], ◌∷◌, ◌++◌, Contains, refl, sym, subst, arith}
use Rattle.best_plan.specs.Moves.{Alternative, Graph, IsAlternative, IsUnfolded, Extends}
use Rattle.loop_plan.specs.Leads.{IsInputOf, IsChain, Leads}

pub alternative_on : (m m' : Graph) → Extends m m' → (g k : ℕ) → IsAlternative m g k → IsAlternative m' g k
alternative_on m m' ext g k is = (omega (arith, ext.goals, is.0), ext.unfolded g is.1, omega (arith, ext.count g is.1, is.2))

pub unfolded_on : (m m' : Graph) → Extends m m' → (g : ℕ) → IsUnfolded m g → IsUnfolded m' g
unfolded_on m m' ext g is = (omega (arith, ext.goals, is.0), ext.unfolded g is.1)

input_on : (m m' : Graph) → Extends m m' → (g h : ℕ) → IsInputOf m g h → IsInputOf m' g h
input_on m m' ext g h is = (is.0, alternative_on m m' ext g is.0 is.1, subst (λ (a : Alternative). Contains a.inputs h) (sym (ext.alternative g is.0 is.1.1)) is.2)

chain_on : (m m' : Graph) → Extends m m' → (g : ℕ) (hs : List ℕ) (h : ℕ) → IsChain m g hs h → IsChain m' g hs h
chain_on m m' ext g [] h c = c
chain_on m m' ext g (i ∷ hs) h c = (input_on m m' ext g i c.0, chain_on m m' ext i hs h c.1)

pub leads_on : (m m' : Graph) → Extends m m' → (root g : ℕ) → Leads m root g → Leads m' root g
leads_on m m' ext root g l = (l.0, chain_on m m' ext root l.0 g l.1)

pub leads_self : (m : Graph) (root : ℕ) → Leads m root root
leads_self m root = ([], refl)

chain_more : (m : Graph) (g : ℕ) (hs : List ℕ) (h i : ℕ) → IsChain m g hs h → IsInputOf m h i → IsChain m g (hs ++ i ∷ []) i
chain_more m g [] h i c is = (subst (λ x. IsInputOf m x i) (sym c) is, refl)
chain_more m g (j ∷ hs) h i c is = (c.0, chain_more m j hs h i c.1 is)

pub leads_more : (m : Graph) (root g h : ℕ) → Leads m root g → IsInputOf m g h → Leads m root h
leads_more m root g h l is = (l.0 ++ h ∷ [], chain_more m root l.0 g h l.1 is)

-- what holds of the root and of all inputs of what it holds of
pub closed : (m : Graph) (P : ℕ → Type 0) → ((g h : ℕ) → P g → IsInputOf m g h → P h) → (root g : ℕ) → P root → Leads m root g → P g
closed m P step root g p l = along root l.0 g p l.1 where
  along : (g : ℕ) (hs : List ℕ) (h : ℕ) → P g → IsChain m g hs h → P h
  along g [] h p c = subst P c p
  along g (i ∷ hs) h p c = along i hs h (step g i p c.0) c.1
