pub mod Run
pub mod RunLaws
pub mod ObeyLaws
pub mod Scan
pub mod ScanLaws
