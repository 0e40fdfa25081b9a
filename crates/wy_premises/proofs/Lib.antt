pub mod MemberSets
pub mod OutsideMembers
pub mod RespectedBounds
pub mod ScopeKinds
pub mod Trying
