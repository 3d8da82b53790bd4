pub mod FlowUnfolding
