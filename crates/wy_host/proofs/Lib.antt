mod FileNames
mod Pieces
