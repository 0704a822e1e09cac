pub mod NameLaws
pub mod ValueLaws
pub mod StartLaws
pub mod SizeLaws
pub mod FormLaws
