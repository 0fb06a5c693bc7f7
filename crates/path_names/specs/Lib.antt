pub mod Escaped
pub mod EscapedLaws
pub mod HalfLaws
pub mod Pieces
pub mod PiecesLaws
