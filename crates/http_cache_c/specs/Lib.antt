pub mod Arguments
pub mod Codes
pub mod Buffer
pub mod Results
