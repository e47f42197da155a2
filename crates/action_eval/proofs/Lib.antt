pub mod BindLaws
mod BuiltinRows
pub mod CappedLaws
pub mod CostLaws
pub mod CostParts
pub mod CostTypes
pub mod DescLaws
pub mod FoldLaws
pub mod FormCases
pub mod FormLaws
mod FormRows
pub mod FrameLaws
pub mod FunctionLaws
pub mod HelperLaws
pub mod KindLaws
pub mod MachineLaws
pub mod PlainLaws
pub mod ReadLaws
pub mod SeenFormLaws
pub mod StatementLaws
pub mod StepCounts
pub mod StepLaws
pub mod TypeLaws
mod ValueRows
pub mod WithCostLaws
