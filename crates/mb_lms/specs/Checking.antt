-- What a checker holds while a text is fed to it.
use Rattle.std.specs.Prelude.{◌≡◌, ℕ, List, ◌++◌}
use Rattle.std.specs.Int.{w32, to_be_bytes}
use Rattle.sha2.specs.Hashers.{Holds256}
use Rattle.mb_model.specs.declared.key.PublicKey.{PublicKey}
use Rattle.mb_model.specs.signatures.Winternitz.{message_mark}
use Rattle.mb_model.specs.signatures.Merkle.{leaf_number, randomizer}
use Rattle.mb_lms.specs.declared.checker.Checker.{Checker}

-- the checker is for the key, and has hashed what precedes a text under the signature, and then the text
pub record IsChecking (checker : Checker) (key : PublicKey) (sig text : List ℕ) : Type 0 where
  pub key_kept : checker.key ≡ key
  pub hashed : Holds256 checker.hasher
      (key.identifier ++ to_be_bytes w32 (leaf_number sig) ++ message_mark ++ randomizer sig ++ text)
