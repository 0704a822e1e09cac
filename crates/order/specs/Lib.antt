pub mod Same
pub mod BigEndian
