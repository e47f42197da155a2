-- The uses of names in the code, and the folds around them, as the definitions see them.
use Rattle.std.specs.Prelude.{List, [], ◌∷◌}
use Rattle.pr_value.specs.Symbols.{Symbol}
use Rattle.rule_types.specs.Uses.{Use, variable, reading, calling, folding, assigning, copying}
use Rattle.rule_types.specs.declared.folds.Folds.{Folds}
use Rattle.rule_types.specs.declared.folds.Folds.TheOpen.{Folds-F}
use Rattle.rule_types.specs.declared.folds.Folds.TheFolds.{fold-Folds}
use Rattle.rule_types.specs.declared.uses.Use as rust
use Rattle.rule_types.specs.declared.uses.Use.TheVariants as variant

-- one level, with the folds around it already seen
abbrev pub folds_level : Folds-F (List Symbol) → List Symbol
folds_level Folds-F.Outside = []
folds_level (Folds-F.Within x others) = x.now ∷ others.now

abbrev pub seen_folds : Folds → List Symbol
seen_folds = fold-Folds (List Symbol) folds_level

abbrev pub seen_use : rust.Use → Use
seen_use (variant.Variable x) = variable x.now
seen_use (variant.Reading d p) = reading d.now p.now
seen_use (variant.Calling f n) = calling f.now n
seen_use (variant.Folding x) = folding x.now
seen_use (variant.Assigning d p) = assigning d.now p.now
seen_use (variant.Copying d e) = copying d.now e.now
