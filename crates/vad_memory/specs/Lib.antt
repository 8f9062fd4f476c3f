pub mod DetectorState
