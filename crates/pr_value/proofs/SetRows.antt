-- Small sets of symbols.
use Rattle.std.proofs.Common.{◌≡◌, true, false, List, [], ◌∷◌, None, Some, refl}
use Rattle.std.specs.Prelude.{codes}
use Rattle.pr_value.specs.Symbols.{Symbol, dash}
use Rattle.pr_value.specs.Repeats.{are_distinct, first_repeated}
use Rattle.pr_value.specs.SymbolSets.{is_before, ascends, contains, insert, set_of, union, meet, minus, subset, same_list}

abbrev a : Symbol
a = codes "a"

abbrev ab : Symbol
ab = codes "ab"

abbrev b : Symbol
b = codes "b"

shorter_first : is_before a ab ≡ true
shorter_first = refl

by_bytes : is_before ab b ≡ true
by_bytes = refl

dash_first : is_before dash a ≡ true
dash_first = refl

upper_first : is_before (codes "Z") a ≡ true
upper_first = refl

not_itself : is_before a a ≡ false
not_itself = refl

ascends-twice : ascends (a ∷ a ∷ []) ≡ false
ascends-twice = refl

ascends-three : ascends (a ∷ ab ∷ b ∷ []) ≡ true
ascends-three = refl

insert-between : insert ab (a ∷ b ∷ []) ≡ a ∷ ab ∷ b ∷ []
insert-between = refl

insert-again : insert b (a ∷ b ∷ []) ≡ a ∷ b ∷ []
insert-again = refl

set_of-unsorted : set_of (b ∷ a ∷ b ∷ []) ≡ a ∷ b ∷ []
set_of-unsorted = refl

union-shared : union (a ∷ b ∷ []) (ab ∷ b ∷ []) ≡ a ∷ ab ∷ b ∷ []
union-shared = refl

meet-shared : meet (a ∷ b ∷ []) (ab ∷ b ∷ []) ≡ b ∷ []
meet-shared = refl

minus-shared : minus (a ∷ b ∷ []) (ab ∷ b ∷ []) ≡ a ∷ []
minus-shared = refl

contains-none : contains [] a ≡ false
contains-none = refl

subset-none : (ss : List Symbol) → subset [] ss ≡ true
subset-none ss = refl

subset-more : subset (a ∷ b ∷ []) (a ∷ ab ∷ b ∷ []) ≡ true
subset-more = refl

subset-less : subset (a ∷ ab ∷ []) (a ∷ b ∷ []) ≡ false
subset-less = refl

same_list-shorter : same_list (a ∷ []) (a ∷ b ∷ []) ≡ false
same_list-shorter = refl

are_distinct-two : are_distinct (b ∷ a ∷ []) ≡ true
are_distinct-two = refl

are_distinct-again : are_distinct (a ∷ b ∷ a ∷ []) ≡ false
are_distinct-again = refl

first_repeated-none : first_repeated (b ∷ a ∷ ab ∷ []) ≡ None
first_repeated-none = refl

-- the later of the two that are equal, and the first such
first_repeated-third : first_repeated (a ∷ b ∷ b ∷ a ∷ []) ≡ Some 2
first_repeated-third = refl
