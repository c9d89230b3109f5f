-- What the command `trust` does. Does it allow a key exactly if the policy allows each configuration that an accepted
-- chain lists for it?
use Rattle.std.specs.Prelude.{ℕ, List, ◌++◌, codes}
use Rattle.std.specs.Fmt.{decimal}
use Rattle.mb_model.specs.outside.Texts.{line_with_lf}
use Rattle.mb_model.specs.chains.Acceptance.{Verdict, chain_acceptance, chain_rejection, IsVerdict}
use Rattle.mb_model_commands.specs.Commands.{Command, read, find, print, refuse}
use Rattle.mb_model_commands.specs.Inputs.{root_input, chain_bytes_input}
use Rattle.mb_model_commands.specs.VerifyCommand.{chain_refusal_line}
use Rattle.mb_policy.specs.declared.judging.Judgement.{Judgement}
use Rattle.mb_policy.specs.declared.judging.Judgement.TheVariants as judgement
use Rattle.mb_policy.specs.Policies.{PolicyItem}
use Rattle.mb_policy.specs.Judging.{IsJudged}
use Rattle.mb_tools_policy.specs.Inputs.{policy_input}

-- the names of the files, and the number of the key that is reported on
pub record TrustNames : Type 0 where
  pub root : List ℕ
  pub chain : List ℕ
  pub key : ℕ
  pub policy : List ℕ

-- the line with the number of the configuration that is denied, and the name of the rule that denies it
abbrev pub denied_line : ℕ → List ℕ → List ℕ
denied_line number rule = codes "denied " ++ decimal number ++ codes " " ++ rule

-- What the policy comes to: the key is allowed, or a configuration is denied. One word is printed, for scripts;
-- `verify` prints the listing.
abbrev pub tell_judgement : Judgement → Command
tell_judgement judgement.Allowed = print (line_with_lf (codes "allowed"))
tell_judgement (judgement.Denied number rule) = refuse (denied_line number rule)

-- the report of an accepted chain is judged by the policy, or the chain is refused
abbrev pub judge_verdict : List PolicyItem → Verdict → Command
judge_verdict items (chain_acceptance report) = find (IsJudged items report) tell_judgement
judge_verdict items (chain_rejection why) = refuse (chain_refusal_line why)

-- the maker's public key, the chain and the policy are read; then the chain is verified, and its report judged
unfoldable pub trust : TrustNames → Command
trust names =
    read (root_input names.root) (λ maker.
    read (chain_bytes_input names.chain) (λ bytes.
    read (policy_input names.policy) (λ items.
    find (IsVerdict maker bytes names.key) (judge_verdict items))))
