pub mod Ways
pub mod Carrying
pub mod CertAccepting
pub mod Writing
