-- What the command `endorsed` does. Is a root key accepted exactly if the maker's HSS key has signed it?
use Rattle.std.specs.Prelude.{ℕ, List, codes}
use Rattle.mb_model.specs.declared.key.PublicKey.{PublicKey}
use Rattle.mb_model.specs.outside.Texts.{line_with_lf}
use Rattle.mb_model_commands.specs.Commands.{Command, read, either_command, print, refuse}
use Rattle.mb_model_commands.specs.Inputs.{root_input}
use Rattle.mb_hss.specs.declared.key.HssKey.{HssKey}
use Rattle.mb_hss.specs.HssVerification.{HssVerifies}
use Rattle.mb_tools_hss.specs.Endorse.{endorsed_text}
use Rattle.mb_tools_hss.specs.MakerInputs.{hss_key_input, endorsement_input}

-- the names of the files
pub record EndorsedNames : Type 0 where
  pub public : List ℕ
  pub root : List ℕ
  pub endorsement : List ℕ

-- the endorsement is a signature of the root key's text under the maker's key, or it is refused
unfoldable pub judge_endorsement : HssKey → PublicKey → List ℕ → Command
judge_endorsement key root endorsement =
    either_command (HssVerifies key (endorsed_text root) endorsement)
    (print (line_with_lf (codes "endorsed"))) (refuse (codes "refused 28"))

-- the maker's public key, the root key and the endorsement are read, and the endorsement is verified
unfoldable pub endorsed : EndorsedNames → Command
endorsed names =
    read (hss_key_input names.public) (λ key.
    read (root_input names.root) (λ root.
    read (endorsement_input names.endorsement) (λ endorsement.
    judge_endorsement key root endorsement)))
