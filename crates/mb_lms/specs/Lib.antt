pub mod Checking
pub use Rattle.sha2.specs.Sha256
