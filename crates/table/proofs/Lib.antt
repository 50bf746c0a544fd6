pub mod OrderLimits
pub mod OrderAsked
pub mod OrderHead
pub mod OrderLaws
pub mod OrderChecks
pub mod OrderOne
pub mod OrderFresh
pub mod OrderRebound
