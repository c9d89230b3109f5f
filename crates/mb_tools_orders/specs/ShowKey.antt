-- What the command `showkey` does. Does an officer see how many signatures a key has left?
use Rattle.std.specs.Prelude.{ℕ, ◌-◌, List, [], ◌∷◌, ◌++◌, codes}
use Rattle.mb_model.specs.declared.limits.TheConstants.{KEY_USES}
use Rattle.mb_model.specs.declared.key.PublicKey.{PublicKey}
use Rattle.mb_model.specs.signatures.Key.{key_bytes}
use Rattle.mb_model.specs.signatures.Signing.{public_of}
use Rattle.mb_model.specs.chains.Lines.{text_of}
use Rattle.mb_model.specs.chains.Listing.{number_line}
use Rattle.mb_model_commands.specs.Commands.{Command, read, print}
use Rattle.mb_model_commands.specs.Inputs.{key_input}
use Rattle.mb_model_commands.specs.Keygen.{owner_text}

-- the name of the file
pub record ShowKeyNames : Type 0 where
  pub key : List ℕ

-- the text of a key with this public key and this next index: the hash of the public key, as `keygen` prints it, the
-- next index, and how many are left
abbrev pub key_text : PublicKey → ℕ → List ℕ
key_text owner next =
    owner_text (key_bytes owner)
    ++ text_of (number_line (codes "next") next ∷ number_line (codes "left") (KEY_USES - next) ∷ [])

-- the key is read, and its text is printed; the key is left as it is
unfoldable pub showkey : ShowKeyNames → Command
showkey names = read (key_input names.key) (λ key. print (key_text (public_of key.seed) key.next))
