pub mod AmongLaws
pub mod RoleLaws
