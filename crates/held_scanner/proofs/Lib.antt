pub mod ScannerWalks
