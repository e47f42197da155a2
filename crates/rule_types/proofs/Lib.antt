pub mod AcceptedArities
pub mod AcceptedCosts
pub mod AcceptedNames
pub mod AcceptedSides
pub mod AcceptedStatements
pub mod AcceptedTypes
pub mod ArityLaws
pub mod BuiltinCountLaws
pub mod CallLaws
mod ConditionRows
pub mod CostNameLaws
pub mod CostTypeLaws
pub mod DeclarationLaws
pub mod DistinctLaws
pub mod DistinctParts
pub mod EachLaws
mod GivenLaws
pub mod NameLaws
pub mod NodeLaws
pub mod NumberLaws
pub mod PlacedLaws
pub mod RefusalLaws
mod RoleLaws
pub mod RuleCostLaws
pub mod SideLaws
pub mod StepLaws
pub mod TypeLaws
pub mod UseLaws
