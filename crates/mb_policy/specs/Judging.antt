-- What a policy comes to for the report on a key. Which configuration is the first that it does not allow?
use Rattle.std.specs.Prelude.{◌≡◌, ℕ, ◌+◌, ◌<◌, ◌==◌, nat_le, Bool, true, false, not, ◌&&◌, ◌||◌, if◌then◌else◌}
use Rattle.std.specs.Prelude.{List, [], ◌∷◌, length, codes, slice_get, Option, Some, None, is_some, option_map}
use Rattle.std.specs.List.{list_any}
use Rattle.sha2.specs.Sha256.{sha256}
use Rattle.mb_format.specs.Combinators.{same_bytes}
use Rattle.mb_model.specs.declared.entry.Said.{Said}
use Rattle.mb_model.specs.declared.layer.Layer.{Layer}
use Rattle.mb_model.specs.declared.order.KeyKind.{KeyKind}
use Rattle.mb_model.specs.declared.order.KeyKind.TheVariants as kinds
use Rattle.mb_model.specs.declared.state.Configuration.{Configuration}
use Rattle.mb_model.specs.declared.state.Report.{Report}
use Rattle.mb_model.specs.signatures.Key.{key_bytes}
use Rattle.mb_model.specs.records.ChainFormat.{answered_in}
use Rattle.mb_model.specs.owners.Layers.{layer_of, is_layer_number, is_same_trust, trust_for}
use Rattle.mb_policy.specs.declared.judging.Judgement.{Judgement}
use Rattle.mb_policy.specs.declared.judging.Judgement.TheVariants as judgement
use Rattle.mb_policy.specs.Policies.{HashSet, Test, PolicyItem, set_item, rule_item}
use Rattle.mb_policy.specs.Policies.{both_of, either_of, opposite, owner_in_set, code_in_set, version_between, trust_is}
use Rattle.mb_policy.specs.Policies.{reliable_at, number_between, comes_first, comes_last, kind_is, key_lives}
use Rattle.mb_policy.specs.Policies.{has_statement, has_call, input_in, answer_in}

-- ---- tests

-- one configuration of a report, with its index in the report's list
pub record Situation : Type 0 where
  pub report : Report
  pub index : ℕ
  pub configuration : Configuration

-- the layer with this number, if the configuration lists it: layers 1 up to the key's are listed
abbrev pub listed_layer : Configuration → ℕ → Option Layer
listed_layer configuration layer =
    if is_layer_number layer && nat_le layer configuration.upto
    then Some (layer_of configuration.layers layer)
    else None

-- there is a value, and it passes
abbrev pub some_passes : {A : Type 0} → (A → Bool) → Option A → Bool
some_passes test None = false
some_passes test (Some a) = test a

abbrev pub has_hash : HashSet → List ℕ → Bool
has_hash set hash = list_any (same_bytes hash) set.hashes

-- the hash of the layer's owner, if it has one
abbrev pub owner_hash : Layer → Option (List ℕ)
owner_hash layer = option_map (λ owner. sha256 (key_bytes owner)) layer.owner

-- the hash of the layer's code, if it has code
abbrev pub code_hash : Layer → Option (List ℕ)
code_hash layer = option_map (λ code. code.hash) layer.code

-- the hash of the input and the answer, if there is a statement and it is one of a call
abbrev pub call_said : Option Said → Option (List ℕ × List ℕ)
call_said None = None
call_said (Some said) = answered_in said

abbrev pub input_hash : Report → Option (List ℕ)
input_hash report = option_map (λ (input, answer). input) (call_said report.said)

abbrev pub answer_hash : Report → Option (List ℕ)
answer_hash report = option_map (λ (input, answer). sha256 answer) (call_said report.said)

-- the number is at least the first of these two and at most the second; no number is, if the first is greater
abbrev pub is_between : ℕ → ℕ → ℕ → Bool
is_between least most number = nat_le least number && nat_le number most

abbrev pub has_version : ℕ → ℕ → Layer → Bool
has_version least most layer = some_passes (λ code. is_between least most code.version) layer.code

abbrev pub is_same_kind : KeyKind → KeyKind → Bool
is_same_kind kinds.Epoch kinds.Epoch = true
is_same_kind kinds.Configuration kinds.Configuration = true
is_same_kind _ _ = false

-- Whether a test holds of a configuration. What it asks of a layer is false if that layer is not listed.
abbrev pub holds : Test → Situation → Bool
holds (both_of a b) s = holds a s && holds b s
holds (either_of a b) s = holds a s || holds b s
holds (opposite a) s = not (holds a s)
holds (owner_in_set layer set) s =
    some_passes (λ listed. some_passes (has_hash set) (owner_hash listed)) (listed_layer s.configuration layer)
holds (code_in_set layer set) s =
    some_passes (λ listed. some_passes (has_hash set) (code_hash listed)) (listed_layer s.configuration layer)
holds (version_between layer least most) s = some_passes (has_version least most) (listed_layer s.configuration layer)
holds (trust_is layer lower trust) s =
    some_passes (λ listed. is_same_trust (trust_for listed lower) trust) (listed_layer s.configuration layer)
holds (reliable_at layer) s = some_passes (λ listed. listed.reliable) (listed_layer s.configuration layer)
holds (number_between least most) s = is_between least most s.configuration.number
holds comes_first s = s.index == 0
holds comes_last s = s.index + 1 == length s.report.lives
holds (kind_is kind) s = is_same_kind s.report.kind kind
holds key_lives s = s.report.alive
holds has_statement s = is_some s.report.said
holds has_call s = is_some (call_said s.report.said)
holds (input_in set) s = some_passes (has_hash set) (input_hash s.report)
holds (answer_in set) s = some_passes (has_hash set) (answer_hash s.report)

-- ---- rules

-- the name of a rule, and whether it allows
pub record Ruling : Type 0 where
  pub name : List ℕ
  pub allows : Bool

-- the rule for a configuration if no rule's test holds: it denies
abbrev pub default_ruling : Ruling
default_ruling = record { name = codes "default"; allows = false }

-- the first rule whose test holds of a configuration, or `default`
abbrev pub ruling_of : List PolicyItem → Situation → Ruling
ruling_of [] s = default_ruling
ruling_of (set_item set ∷ rest) s = ruling_of rest s
ruling_of (rule_item rule ∷ rest) s =
    if holds rule.test s then record { name = rule.name; allows = rule.allows } else ruling_of rest s

-- the rule for the configuration at an index of a report's list
abbrev pub ruling_at : List PolicyItem → Report → ℕ → Configuration → Ruling
ruling_at items report index configuration =
    ruling_of items (record { report = report; index = index; configuration = configuration })

-- ---- the judgement

-- each of the first n configurations is allowed
abbrev pub AllowsFirst : List PolicyItem → Report → ℕ → Type 0
AllowsFirst items report n =
    (index : ℕ) (configuration : Configuration) → index < n → slice_get report.lives index ≡ Some configuration
    → (ruling_at items report index configuration).allows ≡ true

-- a configuration is denied by the rule with this name, and each before it is allowed
pub record DeniesFirst (items : List PolicyItem) (report : Report) (number : ℕ) (name : List ℕ) : Type 0 where
  pub index : ℕ
  pub configuration : Configuration
  pub there : slice_get report.lives index ≡ Some configuration
  pub before : AllowsFirst items report index
  pub denied : ruling_at items report index configuration ≡ record { name = name; allows = false }
  pub number_is : number ≡ configuration.number

-- each configuration of the report is allowed, or this is the first that is not, and the rule that denies it
abbrev pub IsJudged : List PolicyItem → Report → Judgement → Type 0
IsJudged items report judgement.Allowed = AllowsFirst items report (length report.lives)
IsJudged items report (judgement.Denied number name) = DeniesFirst items report number name
