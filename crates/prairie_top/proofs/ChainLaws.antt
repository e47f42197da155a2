-- Laws of texts that are asked for one after another, whatever comes next.
use Rattle.std.proofs.Common.{◌≡◌, ℕ, ◌<◌, true, false, Bool, List, length, Option, Some, None, ap, sym, ◌∙◌, subst, arith, inl, inr}
use Rattle.std.specs.Prelude.{◌⊎◌, Result, Err}
use Rattle.pr_outside.specs.Counts.{last_count, Still}
use Rattle.pr_outside.specs.Files.{Files, held_under, MayFail}
use Rattle.prairie_top.specs.Run.{Fetches, Told}
use Rattle.prairie_top.specs.Sources.{Source, Within, AllFetched, IsRead, IsRefused, Chain, refused, failed, read}
use Rattle.prairie_top.specs.Stages.{IsHad, IsStopped}
use Rattle.prairie_top.specs.declared.stage.Refusal.{Refusal}
use Rattle.prairie_top.specs.declared.stage.Refusal.TheVariants.{TooLong}
use Rattle.prairie_top.specs.declared.stage.Stop.{Stop}
use Rattle.prairie_top.specs.declared.stage.Stop.TheVariants as stop
use Rattle.prairie_top.specs.declared.status.Status.{Status}
use Rattle.prairie_top.specs.declared.status.Status.TheVariants as status

-- ---- what the code gives is a chain

-- a text that is read, and then what comes next over the same shelf
pub read_next : {X : Type 0} (s : Source X) (Next : X → Fetches → Status → List ℕ → Type 0) (h h' : Option Files) (u u' : Bool) (b m a : ℕ) (x : X) (came : Status) (text : List ℕ)
    → h' ≡ h → u' ≡ u → m ≡ b → Told h s.name (Within s.limit (s.Reads x)) → Next x (record { held = h'; sure = u'; before = m; after = a }) came text
    → Chain s (record { held = h; sure = u; before = b; after = a }) (λ y. Next y (record { held = h; sure = u; before = b; after = a })) came text
read_next s Next h h' u u' b m a x came text eh eu em told next =
    read x told (
    subst (λ (n : ℕ). Next x (record { held = h; sure = u; before = n; after = a }) came text) em (
    subst (λ (t : Bool). Next x (record { held = h; sure = t; before = m; after = a }) came text) eu (
    subst (λ (o : Option Files). Next x (record { held = o; sure = u'; before = m; after = a }) came text) eh next)))

-- a text that is not had
pub stopped_chain : {X Y : Type 0} (s : Source X) (Reads : Y → List ℕ → Type 0) (fetches : Fetches) (Next : X → Status → List ℕ → Type 0) (r : Result Y Stop) (e : Stop) (came : Status) (text : List ℕ)
    → r ≡ Err e → IsHad Reads s.Refuses fetches s.name s.limit r → IsStopped s.word s.name e came text → Chain s fetches Next came text
stopped_chain {X} {Y} s Reads fetches Next r e came text is had stops = by_stop e (subst (λ (o : Result Y Stop). IsHad Reads s.Refuses fetches s.name s.limit o) is had) stops where
  by_stop : (e : Stop) → IsHad Reads s.Refuses fetches s.name s.limit (Err e) → IsStopped s.word s.name e came text → Chain s fetches Next came text
  by_stop (stop.Refused refusal) h t = refused refusal h.1 h.0 t.0 t.1
  by_stop stop.Failed h t = failed h t.0 t.1
  by_stop stop.Memory h t = absurd t

-- ---- laws

pub some_is : {A : Type 0} (x y : A) → Some x ≡ Some y → x ≡ y
some_is x y e = cc

-- what is told under one name
pub told_both : (held : Option Files) (files : Files) (name : List ℕ) (P Q : List ℕ → Type 0) → held ≡ Some files → Told held name P → Told held name Q → (bytes : List ℕ) × P bytes × Q bytes
told_both None files name P Q e p q = absurd (cc e)
told_both (Some all) files name P Q e (b, at, p) (c, at', q) = (b, p, subst Q (some_is c b (sym at' ∙ at)) q)

-- each answer is a read fault, or no fetch failed
abbrev pub Settles : Fetches → (Status → List ℕ → Type 0) → Type 0
Settles fetches P = (came : Status) (text : List ℕ) → P came text → (came ≡ status.ReadFault) ⊎ AllFetched fetches

-- the answers of both are one
abbrev pub One : (Status → List ℕ → Type 0) → (Status → List ℕ → Type 0) → Type 0
One P Q = (a b : Status) (x y : List ℕ) → P a x → Q b y → a ≡ b

-- what reads is not refused
abbrev pub IsClear : {X : Type 0} → Source X → Type 0
IsClear {X} s = (x : X) (refusal : Refusal) (bytes : List ℕ) → s.Reads x bytes → s.Refuses refusal bytes → ⊥

module _ {X : Type 0} (s : Source X) (fetches : Fetches) (Next : X → Status → List ℕ → Type 0) where
  pub chain_settles : ((x : X) → Settles fetches (Next x)) → Settles fetches (Chain s fetches Next)
  chain_settles h came text (refused refusal why all is e) = inr all
  chain_settles h came text (failed fails is e) = inl is
  chain_settles h came text (read x told next) = h x came text next

  module _ (files : Files) (tells : fetches.held ≡ Some files) (clear : IsClear s) where
    -- a text that is read is not refused
    pub read_not_refused : (x : X) (refusal : Refusal) → IsRead s fetches x → IsRefused s fetches refusal → ⊥
    read_not_refused x refusal told why =
        let b = told_both fetches.held files s.name (Within s.limit (s.Reads x)) (λ bytes. ((refusal ≡ TooLong) × (s.limit < length bytes)) ⊎ Within s.limit (s.Refuses refusal) bytes) tells told why in
        elim b.2 [
          | inl long ↦ let few = (b.1).0 in let many = long.1 in omega (arith, few, many)
          | inr within ↦ clear x refusal b.0 (b.1).1 within.1
        ]

    -- two answers are one where the texts that follow have one
    pub chain_one : fetches.before < last_count → ((x y : X) (bytes : List ℕ) → s.Reads x bytes → s.Reads y bytes → One (Next x) (Next y)) → ((x : X) → Settles fetches (Next x))
        → One (Chain s fetches Next) (Chain s fetches Next)
    chain_one below one settles a b x y (refused r why all is e) (refused r' why' all' is' e') = is ∙ sym is'
    chain_one below one settles a b x y (refused r why all is e) (failed fails is' e') = let rose = fails.0 in absurd (omega (arith, below, all, rose))
    chain_one below one settles a b x y (refused r why all is e) (read v told next) = absurd (read_not_refused v r told why)
    chain_one below one settles a b x y (failed fails is e) (refused r why all is' e') = let rose = fails.0 in absurd (omega (arith, below, all, rose))
    chain_one below one settles a b x y (failed fails is e) (failed fails' is' e') = is ∙ sym is'
    chain_one below one settles a b x y (failed fails is e) (read v told next) = elim (settles v b y next) [
      | inl is' ↦ is ∙ sym is'
      | inr all ↦ let rose = fails.0 in absurd (omega (arith, below, all, rose))
    ]
    chain_one below one settles a b x y (read v told next) (refused r why all is e) = absurd (read_not_refused v r told why)
    chain_one below one settles a b x y (read v told next) (failed fails is e) = elim (settles v a x next) [
      | inl is' ↦ is' ∙ sym is
      | inr all ↦ let rose = fails.0 in absurd (omega (arith, below, all, rose))
    ]
    chain_one below one settles a b x y (read v told next) (read w told' next') =
        let both = told_both fetches.held files s.name (Within s.limit (s.Reads v)) (Within s.limit (s.Reads w)) tells told told' in
        one v w both.0 (both.1).1 (both.2).1 a b x y next next'

    -- where the text is read and no fetch fails, the answer is one that comes next
    pub chain_complete : Still fetches.before fetches.after → (x : X) → IsRead s fetches x → (came : Status) (text : List ℕ)
        → ((y : X) (bytes : List ℕ) → s.Reads x bytes → s.Reads y bytes → Next y came text → Next x came text) → Chain s fetches Next came text → Next x came text
    chain_complete still x told came text same (refused r why all is e) = absurd (read_not_refused x r told why)
    chain_complete still x told came text same (failed fails is e) = let rose = fails.0 in let at = still.0 in let below = still.1 in absurd (omega (arith, at, below, rose))
    chain_complete still x told came text same (read y told' next) =
        let both = told_both fetches.held files s.name (Within s.limit (s.Reads x)) (Within s.limit (s.Reads y)) tells told told' in
        same y both.0 (both.1).1 (both.2).1 next

  -- over a sure shelf that holds the text, no read fault comes where none comes next
  pub chain_sure : (files : Files) → fetches.held ≡ Some files → fetches.sure ≡ true → (bytes : List ℕ) → held_under files s.name ≡ Some bytes → ((x : X) (text : List ℕ) → Next x status.ReadFault text → ⊥)
      → (text : List ℕ) → Chain s fetches Next status.ReadFault text → ⊥
  chain_sure files tells is bytes at never text (refused r why all same e) = cc same
  chain_sure files tells is bytes at never text (failed fails same e) = sure_holds fetches.held fetches.sure files s.name s.limit tells is bytes at fails.1 where
    sure_holds : (held : Option Files) (sure : Bool) (files : Files) (name : List ℕ) (limit : ℕ) → held ≡ Some files → sure ≡ true → (bytes : List ℕ) → held_under files name ≡ Some bytes → MayFail held sure name limit → ⊥
    sure_holds None sure files name limit tells is bytes at may = cc tells
    sure_holds (Some all) sure files name limit tells is bytes at may =
        let unsure : sure ≡ false = (may bytes (ap (λ fs. held_under fs name) (some_is all files tells) ∙ at)).1 in
        let clash : true ≡ false = sym is ∙ unsure in
        cc clash
  chain_sure files tells is bytes at never text (read x told next) = never x text next

  -- the text of an answer that is neither a refusal nor a fault is that of what comes next
  pub chain_text : (came : Status) (t : List ℕ) → (came ≡ status.Refused → ⊥) → (came ≡ status.ReadFault → ⊥) → ((x : X) (text : List ℕ) → Next x came text → text ≡ t)
      → (text : List ℕ) → Chain s fetches Next came text → text ≡ t
  chain_text came t a b h text (refused r why all is e) = absurd (a is)
  chain_text came t a b h text (failed fails is e) = absurd (b is)
  chain_text came t a b h text (read x told next) = h x text next
