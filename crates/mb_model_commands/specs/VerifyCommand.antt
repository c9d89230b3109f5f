-- What the command `verify` does. Does it list what an accepted chain says of the key, and name what is wrong with any
-- other?
use Rattle.std.specs.Prelude.{ℕ, List, [], ◌++◌, codes}
use Rattle.std.specs.Fmt.{decimal}
use Rattle.mb_model.specs.chains.Lines.{text_of}
use Rattle.mb_model.specs.chains.Listing.{listing}
use Rattle.mb_model.specs.chains.Acceptance.{ChainRefusal, bad_form, bad_signature, bad_order, breaks_rules}
use Rattle.mb_model.specs.chains.Acceptance.{refusal_code}
use Rattle.mb_model.specs.chains.Acceptance.{Verdict, chain_acceptance, chain_rejection, IsVerdict}
use Rattle.mb_model_commands.specs.Commands.{Command, read, find, print, refuse}
use Rattle.mb_model_commands.specs.Inputs.{root_input, chain_bytes_input}

-- the names of the files, and the number of the key to report on
pub record VerifyNames : Type 0 where
  pub root : List ℕ
  pub chain : List ℕ
  pub key : ℕ

-- where the chain is wrong: the offset at which its form fails, or the index of the entry
abbrev pub refusal_place_words : ChainRefusal → List ℕ
refusal_place_words (bad_form offset) = codes " " ++ decimal offset
refusal_place_words (bad_signature index) = codes " " ++ decimal index
refusal_place_words (bad_order index) = codes " " ++ decimal index
refusal_place_words (breaks_rules index) = codes " " ++ decimal index
refusal_place_words _ = []

-- the line that says why a chain is not accepted
abbrev pub chain_refusal_line : ChainRefusal → List ℕ
chain_refusal_line why = codes "refused " ++ decimal (refusal_code why) ++ refusal_place_words why

-- what the chain says of the key is printed, or the chain is refused
abbrev pub tell_verdict : ℕ → Verdict → Command
tell_verdict key_number (chain_acceptance report) = print (text_of (listing key_number report))
tell_verdict key_number (chain_rejection why) = refuse (chain_refusal_line why)

-- the maker's public key and the chain are read, and the chain is verified
unfoldable pub verify : VerifyNames → Command
verify names =
    read (root_input names.root) (λ maker.
    read (chain_bytes_input names.chain) (λ bytes.
    find (IsVerdict maker bytes names.key) (tell_verdict names.key)))
