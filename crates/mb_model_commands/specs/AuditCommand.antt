-- What the command `audit` does. Does a chain list exactly the configurations in which the device held its key?
use Rattle.std.specs.Prelude.{◌≡◌, ℕ, List, codes, Option, None, Some}
use Rattle.mb_model.specs.declared.key.PublicKey.{PublicKey}
use Rattle.mb_model.specs.declared.state.State.{State}
use Rattle.mb_model.specs.outside.Texts.{line_with_lf}
use Rattle.mb_model.specs.chains.Acceptance.{Verdict, chain_acceptance, chain_rejection}
use Rattle.mb_model.specs.chains.DeviceChains.{own_lives, IsAudited}
use Rattle.mb_model_commands.specs.Commands.{Command, read, find, either_command, print, refuse}
use Rattle.mb_model_commands.specs.Inputs.{image_input, root_input, chain_bytes_input}
use Rattle.mb_model_commands.specs.VerifyCommand.{chain_refusal_line}

-- the names of the files, and the number of the key
pub record AuditNames : Type 0 where
  pub image : List ℕ
  pub root : List ℕ
  pub chain : List ℕ
  pub key : ℕ

-- Compares an accepted chain's list with the device's own; refuses any other chain for the verifier's reason. The lists
-- of configurations are compared, and not the entries: the list is what a reader acts on. If no entry was forged the
-- entries are equal too.
abbrev pub compare : State → ℕ → Verdict → Command
compare state key_number (chain_acceptance report) =
    either_command (report.lives ≡ own_lives state report.entries key_number)
    (print (line_with_lf (codes "agrees")))
    (refuse (codes "differs"))
compare state key_number (chain_rejection why) = refuse (chain_refusal_line why)

-- Audits the chain; refuses a dead device, which has no log. A dead device has no log to compare with, whatever the
-- chain is, so `zeroised` comes before each refusal of the chain.
abbrev pub audit_chain : AuditNames → Option State → PublicKey → List ℕ → Command
audit_chain names None maker bytes = refuse (codes "zeroised")
audit_chain names (Some state) maker bytes =
    find (IsAudited state maker bytes names.key) (compare state names.key)

-- the device's image, the maker's public key and the chain are read, and the chain is audited
unfoldable pub audit : AuditNames → Command
audit names =
    read (image_input names.image) (λ image.
    read (root_input names.root) (λ maker.
    read (chain_bytes_input names.chain) (λ bytes.
    audit_chain names image.state maker bytes)))
