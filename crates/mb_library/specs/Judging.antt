-- What is answered for a maker's key, a chain and a policy in bytes. Is a key trusted exactly if the policy allows each
-- configuration that an accepted chain lists for it?
use Rattle.std.specs.Prelude.{◌≡◌, ℕ, ◌<◌, ◌≤◌, ◌⊎◌, List, length}
use Rattle.mb_model.specs.declared.limits.TheConstants.{FILE_LIMIT}
use Rattle.mb_model.specs.declared.key.PublicKey.{PublicKey}
use Rattle.mb_model.specs.declared.state.Report.{Report}
use Rattle.mb_model.specs.chains.Acceptance.{Accepts, IsRefused, ChainRefusal, refusal_code}
use Rattle.mb_model.specs.chains.Lines.{ReadsLines, TextFailsAtLine}
use Rattle.mb_policy.specs.Policies.{PolicyItem, IsPolicy}
use Rattle.mb_policy.specs.Judging.{AllowsFirst, DeniesFirst}
use Rattle.mb_library.specs.declared.details.Details.{Details}
use Rattle.mb_library.specs.Details.{no_details, refusal_details}
use Rattle.mb_library.specs.Signatures.{SpellsKey, SpellsNoKey}

-- the end for a report and a policy of these items; of a configuration that is denied the number is told
pub data ReportEnd (items : List PolicyItem) (report : Report) (told : Details) (code : ℕ) : Type 0 where
  report_allowed : code ≡ 0 → told ≡ no_details → AllowsFirst items report (length report.lives)
      → ReportEnd items report told code
  report_denied : (number : ℕ) (rule : List ℕ) → code ≡ 7 → told ≡ record no_details { configuration = number }
      → DeniesFirst items report number rule
      → ReportEnd items report told code
  report_without_memory : code ≡ 4 → told ≡ no_details → ReportEnd items report told code

-- the end for a chain under a maker's key, asked for the key with this number, and a policy of these items
pub data TrustEnd (maker : PublicKey) (chain : List ℕ) (key_number : ℕ) (items : List PolicyItem) (told : Details)
    (code : ℕ) : Type 0 where
  trust_judged : (report : Report) → Accepts maker chain key_number report → ReportEnd items report told code
      → TrustEnd maker chain key_number items told code
  trust_not_accepted : (refusal : ChainRefusal) → code ≡ refusal_code refusal → told ≡ refusal_details refusal
      → IsRefused maker chain key_number refusal
      → TrustEnd maker chain key_number items told code
  trust_without_memory : code ≡ 4 → told ≡ no_details → TrustEnd maker chain key_number items told code

-- neither the chain nor the policy is longer than what is read
pub record AreShort (chain policy : List ℕ) : Type 0 where
  pub short_chain : length chain ≤ FILE_LIMIT
  pub short_policy : length policy ≤ FILE_LIMIT

-- the answer for the bytes of a maker's key, of a chain and of a policy
pub data TrustAnswer (maker chain : List ℕ) (key_number : ℕ) (policy : List ℕ) (told : Details) (code : ℕ)
    : Type 0 where
  trust_by_policy_text : (key : PublicKey) (items : List PolicyItem) → SpellsKey maker key → AreShort chain policy
      → ReadsLines IsPolicy policy items → TrustEnd key chain key_number items told code
      → TrustAnswer maker chain key_number policy told code
  trust_by_no_policy : (key : PublicKey) (line : ℕ) → SpellsKey maker key → AreShort chain policy
      → TextFailsAtLine IsPolicy policy line → code ≡ 6 → told ≡ record no_details { line = line }
      → TrustAnswer maker chain key_number policy told code
  trust_unread : (key : PublicKey) → SpellsKey maker key → AreShort chain policy → code ≡ 4 → told ≡ no_details
      → TrustAnswer maker chain key_number policy told code
  trust_too_long : (key : PublicKey) → SpellsKey maker key
      → (FILE_LIMIT < length chain) ⊎ (FILE_LIMIT < length policy) → code ≡ 3 → told ≡ no_details
      → TrustAnswer maker chain key_number policy told code
  trust_under_no_key : SpellsNoKey maker → code ≡ 1 → told ≡ no_details
      → TrustAnswer maker chain key_number policy told code
