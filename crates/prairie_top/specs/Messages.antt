-- The texts of the answers that are no plan. Each is one line.
use Rattle.std.specs.Prelude.{ℕ, List, ◌++◌, codes}
use Rattle.std.specs.Fmt.{decimal}
use Rattle.prairie_top.specs.declared.stage.Refusal.{Refusal}
use Rattle.prairie_top.specs.declared.stage.Refusal.TheVariants.{TooLong, BadByte, NumberTooBig, NameTooLong, BadSyntax, TooDeep, NotJson, BadShape, NotAccepted, TooManyNodes, UnknownOperator, UnknownFile, Arity, UnknownProperty, WrongType, Unbuilt}
use Rattle.catalog.specs.declared.error.CatalogPart.{CatalogPart}
use Rattle.catalog.specs.declared.error.CatalogPart.TheVariants as part
use Rattle.rule_types.specs.declared.refusal.RefusalKind.{RefusalKind}
use Rattle.rule_types.specs.declared.refusal.RefusalKind.TheVariants as kind

-- a kind, and the offset that it comes with
abbrev pub at_offset : List ℕ → ℕ → List ℕ
at_offset kind at = kind ++ codes " " ++ decimal at

-- a kind, and the name that it comes with
abbrev pub with_name : List ℕ → List ℕ → List ℕ
with_name kind name = kind ++ codes " " ++ name

abbrev pub part_name : CatalogPart → List ℕ
part_name part.Root = codes "Root"
part_name part.Files = codes "Files"
part_name part.File = codes "File"
part_name part.Tables = codes "Tables"
part_name part.Row = codes "Row"

abbrev pub condition_name : RefusalKind → List ℕ
condition_name kind.TooMany = codes "TooMany"
condition_name kind.TwoNames = codes "TwoNames"
condition_name kind.NoCost = codes "NoCost"
condition_name kind.TwoCosts = codes "TwoCosts"
condition_name kind.UnknownName = codes "UnknownName"
condition_name kind.WrongArity = codes "WrongArity"
condition_name kind.HelperCost = codes "HelperCost"
condition_name kind.WrongType = codes "WrongType"
condition_name kind.LeftStreamTwice = codes "LeftStreamTwice"
condition_name kind.StreamOrder = codes "StreamOrder"
condition_name kind.TooManyNodes = codes "TooManyNodes"
condition_name kind.LeftNotFlat = codes "LeftNotFlat"
condition_name kind.CopyPlace = codes "CopyPlace"
condition_name kind.AssignTarget = codes "AssignTarget"
condition_name kind.InputInPost = codes "InputInPost"
condition_name kind.CostAssigned = codes "CostAssigned"
condition_name kind.CostMissing = codes "CostMissing"
condition_name kind.CostRead = codes "CostRead"
condition_name kind.CostForm = codes "CostForm"
condition_name kind.NullForm = codes "NullForm"
condition_name kind.EnforcerLeft = codes "EnforcerLeft"
condition_name kind.EnforcerRoot = codes "EnforcerRoot"
condition_name kind.PhysicalInTRule = codes "PhysicalInTRule"
condition_name kind.InputNotPhysical = codes "InputNotPhysical"

abbrev pub refusal_name : Refusal → List ℕ
refusal_name TooLong = codes "TooLong"
refusal_name (BadByte at) = at_offset (codes "BadByte") at
refusal_name (NumberTooBig at) = at_offset (codes "NumberTooBig") at
refusal_name (NameTooLong at) = at_offset (codes "NameTooLong") at
refusal_name (BadSyntax at) = at_offset (codes "BadSyntax") at
refusal_name (TooDeep at) = at_offset (codes "TooDeep") at
refusal_name NotJson = codes "NotJson"
refusal_name (BadShape part) = codes "BadShape " ++ part_name part
refusal_name (NotAccepted kind name) = with_name (condition_name kind) name
refusal_name TooManyNodes = codes "TooManyNodes -"
refusal_name (UnknownOperator name) = with_name (codes "UnknownOperator") name
refusal_name (UnknownFile name) = with_name (codes "UnknownFile") name
refusal_name (Arity name) = with_name (codes "Arity") name
refusal_name (UnknownProperty name) = with_name (codes "UnknownProperty") name
refusal_name (WrongType name) = with_name (codes "WrongType") name
refusal_name Unbuilt = codes "Unbuilt"

-- a text, and why it is refused
abbrev pub refusal_text : List ℕ → Refusal → List ℕ
refusal_text text refusal =
    codes "refused " ++ text ++ codes " " ++ refusal_name refusal ++ codes "\n"

abbrev pub usage_text : List ℕ
usage_text = codes "usage: plan RULES CATALOG QUERY, certify RULES CATALOG QUERY, check RULES CATALOG QUERY CERTIFICATE, p2v RULES, trial NUMBER\n"

abbrev pub no_plan_text : List ℕ
no_plan_text = codes "no plan\n"

abbrev pub memory_text : List ℕ
memory_text = codes "memory\n"

abbrev pub fault_text : List ℕ → List ℕ
fault_text name = codes "read fault " ++ name ++ codes "\n"
