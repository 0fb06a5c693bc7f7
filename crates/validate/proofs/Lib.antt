pub mod CheckLaws
pub mod NestLaws
pub mod Opened
pub mod Refusing
pub mod TurnLaws
