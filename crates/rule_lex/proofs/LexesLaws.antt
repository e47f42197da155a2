-- Tokens lead from a place of a text to one place at most where none goes on, and one fault at most stands there.
use Rattle.std.proofs.Common.{◌≡◌, ◌≢◌, ℕ, ◌+◌, ◌<◌, List, [], ◌∷◌, ◌++◌, length, refl, ap, sym, ◌∙◌, subst, arith, ◌⊎◌, inl, inr}
use Rattle.pr_value.specs.declared.token.Token.{Token}
use Rattle.pr_value.specs.declared.token.Token.TheVariants as token
use Rattle.rule_lex.specs.declared.error.LexError.{LexError}
use Rattle.rule_lex.specs.declared.error.LexError.TheVariants as error
use Rattle.rule_lex.specs.Gaps.{after_gap}
use Rattle.rule_lex.specs.Lexemes.{IsLexeme, NoneBegins, Fits, longest_name}
use Rattle.rule_lex.specs.Lexes.{Leads, Lexes, IsFault, Refuses}
use Rattle.rule_lex.proofs.LexemeLaws.{one_lexeme, lexeme_begins, none_in_empty}

pub leads-append : (end : ℕ) (here : List ℕ) (ts : List (Token × ℕ)) (mid : List ℕ) (us : List (Token × ℕ)) (there : List ℕ) → Leads end here ts mid → Leads end mid us there → Leads end here (ts ++ us) there
leads-append end here [] mid us there l m = subst (λ (x : List ℕ). Leads end x us there) (sym l) m
leads-append end here (p ∷ ts) mid us there l m = (l.0, l.1, l.2, l.3, leads-append end (after_gap l.0) ts mid us there l.4 m)

-- one token more
pub leads-push : (end : ℕ) (start : List ℕ) (ts : List (Token × ℕ)) (here : List ℕ) (t : Token) (place : ℕ) (rest : List ℕ) → Leads end start ts here → IsLexeme here t rest → Fits t → place + length here ≡ end → Leads end start (ts ++ (t, place) ∷ []) (after_gap rest)
leads-push end start ts here t place rest l lexeme fits at = leads-append end start ts here ((t, place) ∷ []) (after_gap rest) l (rest, lexeme, fits, at, refl)

-- no token that fits begins here
pub data Stops (here : List ℕ) : Type 0 where
  nothing : NoneBegins here → Stops here
  misfit : (t : Token) (rest : List ℕ) → IsLexeme here t rest → (Fits t → ⊥) → Stops here

stops_not : (here : List ℕ) (t : Token) (rest : List ℕ) → Stops here → IsLexeme here t rest → Fits t → ⊥
stops_not here t rest (nothing n) lexeme fits = lexeme_begins here t rest lexeme n
stops_not here t rest (misfit u after other unfit) lexeme fits = unfit (subst Fits (one_lexeme here t u rest after lexeme other).0 fits)

stops_at_end : Stops []
stops_at_end = nothing none_in_empty

same_pair : (p q : Token × ℕ) (n end : ℕ) → p.0 ≡ q.0 → p.1 + n ≡ end → q.1 + n ≡ end → p ≡ q
same_pair p q n end e a b = let f : p.1 ≡ q.1 = omega (arith, a, b) in ap (λ (t : Token). (t, p.1)) e ∙ ap (λ (i : ℕ). (q.0, i)) f

-- tokens from one place to places where none goes on are the same, and so are the places
pub one_way : (end : ℕ) (here : List ℕ) (ts : List (Token × ℕ)) (x : List ℕ) (us : List (Token × ℕ)) (y : List ℕ) → Leads end here ts x → Leads end here us y → Stops x → Stops y → (ts ≡ us) × (x ≡ y)
one_way end here [] x [] y l m a b = (refl, sym l ∙ m)
one_way end here [] x (q ∷ us) y l m a b = absurd (stops_not here q.0 m.0 (subst Stops (sym l) a) m.1 m.2)
one_way end here (p ∷ ts) x [] y l m a b = absurd (stops_not here p.0 l.0 (subst Stops (sym m) b) l.1 l.2)
one_way end here (p ∷ ts) x (q ∷ us) y l m a b =
    let same = one_lexeme here p.0 q.0 l.0 m.0 l.1 m.1 in
    let on = one_way end (after_gap l.0) ts x us y l.4 (subst (λ (r : List ℕ). Leads end (after_gap r) us y) (sym same.1) m.4) a b in
    (both p q ts us (same_pair p q (length here) end same.0 l.3 m.3) on.0, on.1)
  where
    both : (p q : Token × ℕ) (ts us : List (Token × ℕ)) → p ≡ q → ts ≡ us → p ∷ ts ≡ q ∷ us
    both p q ts us e f = cc

-- the error for a token that does not fit; a mark always fits
abbrev misfit_error : ℕ → Token → LexError
misfit_error place (token.Name s) = error.NameTooLong place
misfit_error place (token.Number n) = error.NumberTooBig place
misfit_error place (token.Quoted s) = error.NameTooLong (place + 1)
misfit_error place (token.Mark m) = error.Memory

-- what is wrong here, by the token that begins here
data Cause (here : List ℕ) (place : ℕ) (e : LexError) : Type 0 where
  no_token : here ≢ [] → NoneBegins here → e ≡ error.BadByte place → Cause here place e
  unfit : (t : Token) (rest : List ℕ) → IsLexeme here t rest → (Fits t → ⊥) → e ≡ misfit_error place t → Cause here place e

long_name : (here : List ℕ) (place at : ℕ) (s rest : List ℕ) → longest_name < length s → (IsLexeme here (token.Name s) rest × (at ≡ place)) ⊎ (IsLexeme here (token.Quoted s) rest × (at ≡ place + 1)) → Cause here place (error.NameTooLong at)
long_name here place at s rest long (inl h) = unfit (token.Name s) rest h.0 (λ fits. omega (arith, long, fits)) (ap (λ (x : ℕ). error.NameTooLong x) h.1)
long_name here place at s rest long (inr h) = unfit (token.Quoted s) rest h.0 (λ fits. omega (arith, long, fits)) (ap (λ (x : ℕ). error.NameTooLong x) h.1)

cause : (here : List ℕ) (place : ℕ) (e : LexError) → IsFault here place e → Cause here place e
cause here place (error.BadByte at) f = no_token f.1 f.2 (ap (λ (x : ℕ). error.BadByte x) f.0)
cause here place (error.NumberTooBig at) f = unfit (token.Number f.1.0) f.1.1 f.1.3 (λ fits. omega (arith, f.1.2, fits)) (ap (λ (x : ℕ). error.NumberTooBig x) f.0)
cause here place (error.NameTooLong at) f = long_name here place at f.0 f.1 f.2 f.3
cause here place error.Memory f = absurd f

cause_stops : (here : List ℕ) (place : ℕ) (e : LexError) → Cause here place e → Stops here
cause_stops here place e (no_token some none_begins is) = nothing none_begins
cause_stops here place e (unfit t rest lexeme not_fits is) = misfit t rest lexeme not_fits

one_cause : (here : List ℕ) (place : ℕ) (e f : LexError) → Cause here place e → Cause here place f → e ≡ f
one_cause here place e f (no_token s n i) (no_token r m j) = i ∙ sym j
one_cause here place e f (no_token s n i) (unfit u after l b j) = absurd (lexeme_begins here u after l n)
one_cause here place e f (unfit t rest k a i) (no_token r m j) = absurd (lexeme_begins here t rest k m)
one_cause here place e f (unfit t rest k a i) (unfit u after l b j) = i ∙ (ap (misfit_error place) (one_lexeme here t u rest after k l).0 ∙ sym j)

fault_stops : (here : List ℕ) (place : ℕ) (e : LexError) → IsFault here place e → Stops here
fault_stops here place e f = cause_stops here place e (cause here place e f)

no_fault_at_end : (place : ℕ) (e : LexError) → Cause [] place e → ⊥
no_fault_at_end place e (no_token some n i) = some refl
no_fault_at_end place e (unfit t rest l a i) = lexeme_begins [] t rest l none_in_empty

-- at one place there is one fault at most
pub one_fault_here : (here : List ℕ) (place : ℕ) (e f : LexError) → IsFault here place e → IsFault here place f → e ≡ f
one_fault_here here place e f a b = one_cause here place e f (cause here place e a) (cause here place f b)

pub only : (text : List ℕ) (ts : List (Token × ℕ)) → Lexes text ts → (us : List (Token × ℕ)) → Lexes text us → us ≡ ts
only text ts l us m = (one_way (length text) (after_gap text) us [] ts [] m l stops_at_end stops_at_end).0

pub none : (text : List ℕ) (e : LexError) → Refuses text e → (us : List (Token × ℕ)) → Lexes text us → ⊥
none text e r us m =
    let same = one_way (length text) (after_gap text) us [] r.0 r.1 m r.3 stops_at_end (fault_stops r.1 r.2 e r.5) in
    no_fault_at_end r.2 e (cause [] r.2 e (subst (λ (x : List ℕ). IsFault x r.2 e) (sym same.1) r.5))

same_fault : (end : ℕ) (x y : List ℕ) (i j : ℕ) (e f : LexError) → x ≡ y → i + length x ≡ end → j + length y ≡ end → IsFault x i e → IsFault y j f → e ≡ f
same_fault end x y i j e f s k l a b =
    let at : j ≡ i = omega (arith, ap length s) in
    one_fault_here y i e f (subst (λ (z : List ℕ). IsFault z i e) s a) (subst (λ (n : ℕ). IsFault y n f) at b)

pub one_fault : (text : List ℕ) (e f : LexError) → Refuses text e → Refuses text f → e ≡ f
one_fault text e f r s =
    let same = one_way (length text) (after_gap text) r.0 r.1 s.0 s.1 r.3 s.3 (fault_stops r.1 r.2 e r.5) (fault_stops s.1 s.2 f s.5) in
    same_fault (length text) r.1 s.1 r.2 s.2 e f same.1 r.4 s.4 r.5 s.5
