pub mod Spelled
pub mod RuleLaws
pub mod PairLaws
pub mod NodeLaws
pub mod TypeLaws
pub mod ScopeLaws
