-- The declarations of the code, as the definitions see them.
use Rattle.std.specs.Prelude.{map}
use Rattle.rule_ast.specs.Seen.{seen_operator, seen_helper, seen_trule, seen_irule}
use Rattle.rule_types.specs.Declarations.{Declaration, property, operator, algorithm, helper, trule, irule}
use Rattle.rule_types.specs.declared.declaration.Declaration as declaration
use Rattle.rule_types.specs.declared.declaration.Declaration.TheVariants as variant

abbrev pub seen_declaration : declaration.Declaration → Declaration
seen_declaration (variant.Property before this) =
    property (record { before = before.now; this = this.now })
seen_declaration (variant.Operator before this) =
    operator (record { before = map seen_operator before.now; this = seen_operator this.now })
seen_declaration (variant.Algorithm before this) =
    algorithm (record { before = before.now; this = this.now })
seen_declaration (variant.Helper before this) =
    helper (record { before = map seen_helper before.now; this = seen_helper this.now })
seen_declaration (variant.TRule before this) =
    trule (record { before = map seen_trule before.now; this = seen_trule this.now })
seen_declaration (variant.IRule before this) =
    irule (record { before = map seen_irule before.now; this = seen_irule this.now })
