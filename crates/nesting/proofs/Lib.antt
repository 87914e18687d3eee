pub mod NestingLaws
pub mod ScanLaws
pub mod ContentLaws
pub mod BarLaws
