pub mod Unplaced
pub mod Printed
pub mod HasTree
pub mod OwnWords
