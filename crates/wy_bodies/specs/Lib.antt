pub mod Bodies
pub mod BodyRefusals
pub mod FoundBodies
pub mod InSight
pub mod Lending
pub mod Sight
pub mod ValueRows
pub mod Written
