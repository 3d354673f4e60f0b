pub mod Filtered
pub mod Gathered
pub mod PairLemmas
pub mod PlanOrders
pub mod PlanLaws
