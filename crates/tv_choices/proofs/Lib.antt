pub mod ClusterLemmas
pub mod DamageLemmas
pub mod ListLemmas
pub mod MarkLemmas
