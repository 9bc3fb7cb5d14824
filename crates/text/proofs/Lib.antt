-- How pages are filled, and what is on them.
pub mod PageLaws
pub mod WordsLaws
pub mod ReportLaws
pub mod ProgressLaws
pub mod PlantsLaws
pub mod LinesLaws
pub mod BudgetLaws
pub mod FrameLaws
pub mod RefusalLaws
pub mod QuietLaws
pub mod ToldLaws
pub mod Unique
