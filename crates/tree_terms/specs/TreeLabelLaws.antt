-- Two labels are the same exactly where they are equal.
use Rattle.std.proofs.Common.{◌≡◌, ℕ, Bool, true, refl, subst}
use Rattle.std.specs.Prelude.{◌&&◌, ◌==◌}
use Rattle.std.specs.Bool.{Decides}
use Rattle.std.specs.Cmp.{first_so, second_so, unsigned_Decides}
use Rattle.std.specs.Cmp.Derive.{both_true}
use Rattle.std.specs.Cmp.Lexicographic.{bytes_decides}
use Rattle.std.specs.Str.{bytes_eq}
use Rattle.std.proofs.lemmas.Bool.{false≢true}
use Rattle.descriptor_types.specs.Descriptors.{Desc, same_desc}
use Rattle.descriptor_types.specs.EqualityLaws.{same_desc-Decides}
use Rattle.pr_value.specs.EqualityLaws.{same_truth-Decides}
use Rattle.pr_value.specs.Symbols.{Symbol}
use Rattle.pr_value.specs.Values.{same_truth}
use Rattle.tree_terms.specs.TreeLabels.{same_label}
use Rattle.tree_terms.specs.declared.labels.TreeLabel.{TreeLabel}
use Rattle.tree_terms.specs.declared.labels.TreeLabel.TheVariants.{File, Node}

same_files : (m n : Symbol) (d e v w : Desc) → m ≡ n → d ≡ e → v ≡ w → File m d v ≡ File n e w
same_files m n d e v w a b c = λ i. File (a i) (b i) (c i)

same_nodes : (m n : ℕ) (d e v w : Desc) (x y : Bool) → m ≡ n → d ≡ e → v ≡ w → x ≡ y → Node m d v x ≡ Node n e w y
same_nodes m n d e v w x y a b c z = λ i. Node (a i) (b i) (c i) (z i)

pub same_label-equal : (a b : TreeLabel) → same_label a b ≡ true → a ≡ b
same_label-equal (File m d v) (File n e w) h =
    let rest = second_so (bytes_eq m n) (same_desc d e && same_desc v w) h in
    same_files m n d e v w ((bytes_decides m n).0 (first_so (bytes_eq m n) (same_desc d e && same_desc v w) h))
    ((same_desc-Decides d e).0 (first_so (same_desc d e) (same_desc v w) rest))
    ((same_desc-Decides v w).0 (second_so (same_desc d e) (same_desc v w) rest))
same_label-equal (File m d v) (Node n e w b) h = absurd (false≢true h)
same_label-equal (Node m d v a) (File n e w) h = absurd (false≢true h)
same_label-equal (Node m d v a) (Node n e w b) h =
    let rest = second_so (m == n) (same_desc d e && (same_desc v w && same_truth a b)) h in
    let last = second_so (same_desc d e) (same_desc v w && same_truth a b) rest in
    same_nodes m n d e v w a b ((unsigned_Decides m n).0 (first_so (m == n) (same_desc d e && (same_desc v w && same_truth a b)) h))
    ((same_desc-Decides d e).0 (first_so (same_desc d e) (same_desc v w && same_truth a b) rest))
    ((same_desc-Decides v w).0 (first_so (same_desc v w) (same_truth a b) last))
    ((same_truth-Decides a b).0 (second_so (same_desc v w) (same_truth a b) last))

same_label-itself : (a : TreeLabel) → same_label a a ≡ true
same_label-itself (File m d v) = both_true ((bytes_decides m m).1 refl) (both_true ((same_desc-Decides d d).1 refl) ((same_desc-Decides v v).1 refl))
same_label-itself (Node m d v a) =
    both_true ((unsigned_Decides m m).1 refl) (both_true ((same_desc-Decides d d).1 refl) (both_true ((same_desc-Decides v v).1 refl) ((same_truth-Decides a a).1 refl)))

pub same_label-Decides : (a b : TreeLabel) → Decides (same_label a b) (a ≡ b)
same_label-Decides a b = (same_label-equal a b, λ e. subst (λ u. same_label a u ≡ true) e (same_label-itself a))
