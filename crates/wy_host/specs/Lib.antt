pub mod Failures
pub mod FolderNames
pub mod FolderPaths
pub mod Streams
