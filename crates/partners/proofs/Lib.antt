pub mod ScanLaws
pub mod Found
pub mod KeyTests
pub mod WaitingLaws
pub mod BarLaws
pub mod SevenLaws
