-- How a report is judged by computing. No clause of a public call speaks of it.
use Rattle.std.specs.Prelude.{◌≡◌, ℕ, ◌==◌, Bool, false, not, ◌&&◌, ◌||◌, if◌then◌else◌, List}
use Rattle.std.specs.Prelude.{Option, None, Some, slice_get}
use Rattle.mb_model.specs.declared.layer.Layer.{Layer}
use Rattle.mb_model.specs.declared.state.Report.{Report}
use Rattle.mb_policy.specs.declared.judging.DecidingRule.{DecidingRule}
use Rattle.mb_policy.specs.declared.policy.Line.{Line}
use Rattle.mb_policy.specs.declared.policy.Line.TheVariants as line
use Rattle.mb_policy.specs.declared.policy.Test.{Test as Node}
use Rattle.mb_policy.specs.declared.policy.Test.TheVariants as node
use Rattle.mb_policy.specs.declared.situation.Situation.{Situation as Placed}
use Rattle.mb_policy.specs.declared.tables.LayerHashes.{LayerHashes}
use Rattle.mb_policy.specs.declared.tables.CallHashes.{CallHashes}
use Rattle.mb_policy.specs.declared.tables.Hashes.{Hashes}
use Rattle.mb_policy.specs.declared.tables.PerLayer.{PerLayer}
use Rattle.mb_policy.specs.declared.tables.Members.{Members}
use Rattle.mb_policy.specs.Policies.{HashSet, version_between, trust_is, reliable_at}
use Rattle.mb_policy.specs.Policies.{number_between, comes_first, comes_last, kind_is, key_lives}
use Rattle.mb_policy.specs.Policies.{has_statement, has_call}
use Rattle.mb_policy.specs.Judging.{Situation, listed_layer, some_passes, has_hash, owner_hash, code_hash, holds}
use Rattle.mb_policy.specs.Judging.{input_hash, answer_hash, Ruling, ruling_of}
use Rattle.mb_policy.specs.Meanings.{set_meant, items_of}

abbrev pub situation_meant : Placed → Situation
situation_meant s = record { report = s.report.now; index = s.index; configuration = s.configuration.now }

abbrev pub ruling_meant : DecidingRule → Ruling
ruling_meant rule = record { name = rule.name.now; allows = rule.allows }

-- ---- hashes

-- the hashes of a layer, or none if it is not listed
abbrev pub layer_hashes : Option Layer → LayerHashes
layer_hashes None = record { owner = None; code = None }
layer_hashes (Some layer) = record { owner = owner_hash layer; code = code_hash layer }

-- the hashes of the call that the report states, or none if it states no call
abbrev pub call_hashes : Report → CallHashes
call_hashes report = record { input = input_hash report; answer = answer_hash report }

abbrev pub asked_hashes : Situation → Hashes
asked_hashes s = record {
  one = layer_hashes (listed_layer s.configuration 1);
  two = layer_hashes (listed_layer s.configuration 2);
  three = layer_hashes (listed_layer s.configuration 3);
  call = call_hashes s.report;
}

-- ---- members

-- the answer for a layer; false for a number that no layer has
abbrev pub passes_at : PerLayer → ℕ → Bool
passes_at answers layer =
    if layer == 1 then answers.one
    else if layer == 2 then answers.two
    else if layer == 3 then answers.three
    else false

-- which owners and codes are in a set, and whether the input and the answer of the call are
abbrev pub members_of_set : HashSet → Hashes → Members
members_of_set set hashes = record {
  owners = record {
    one = some_passes (has_hash set) hashes.one.owner;
    two = some_passes (has_hash set) hashes.two.owner;
    three = some_passes (has_hash set) hashes.three.owner;
  };
  codes = record {
    one = some_passes (has_hash set) hashes.one.code;
    two = some_passes (has_hash set) hashes.two.code;
    three = some_passes (has_hash set) hashes.three.code;
  };
  input = some_passes (has_hash set) hashes.call.input;
  answer = some_passes (has_hash set) hashes.call.answer;
}

abbrev pub no_layer : PerLayer
no_layer = record { one = false; two = false; three = false }

abbrev pub no_members : Members
no_members = record { owners = no_layer; codes = no_layer; input = false; answer = false }

abbrev pub members_of_line : Line → Hashes → Members
members_of_line (line.Set set) hashes = members_of_set (set_meant set) hashes
members_of_line (line.Rule rule) hashes = no_members

-- ---- tests

abbrev pub owner_seen : List Members → ℕ → ℕ → Bool
owner_seen seen set layer = some_passes (λ members. passes_at members.owners layer) (slice_get seen set)

abbrev pub code_seen : List Members → ℕ → ℕ → Bool
code_seen seen set layer = some_passes (λ members. passes_at members.codes layer) (slice_get seen set)

abbrev pub input_seen : List Members → ℕ → Bool
input_seen seen set = some_passes (λ members. members.input) (slice_get seen set)

abbrev pub answer_seen : List Members → ℕ → Bool
answer_seen seen set = some_passes (λ members. members.answer) (slice_get seen set)

-- whether a test holds, by the members of the sets before its rule
abbrev pub test_passes : List Members → Situation → Node → Bool
test_passes seen s (node.And' p a q b) = test_passes seen s a && test_passes seen s b
test_passes seen s (node.Or' p a q b) = test_passes seen s a || test_passes seen s b
test_passes seen s (node.Not' p a) = not (test_passes seen s a)
test_passes seen s (node.Owner layer set) = owner_seen seen set layer
test_passes seen s (node.Code layer set) = code_seen seen set layer
test_passes seen s (node.Version layer least most) = holds (version_between layer least most) s
test_passes seen s (node.Trust layer lower trust) = holds (trust_is layer lower trust) s
test_passes seen s (node.Reliable layer) = holds (reliable_at layer) s
test_passes seen s (node.Number least most) = holds (number_between least most) s
test_passes seen s node.First = holds comes_first s
test_passes seen s node.Last = holds comes_last s
test_passes seen s (node.Kind kind) = holds (kind_is kind) s
test_passes seen s node.Alive = holds key_lives s
test_passes seen s node.Statement = holds has_statement s
test_passes seen s node.Called = holds has_call s
test_passes seen s (node.Input set) = input_seen seen set
test_passes seen s (node.Answer set) = answer_seen seen set

-- ---- rules

-- what a line says of a configuration: nothing, if it is a set, or a rule whose test does not hold
abbrev pub ruling_of_line : List Members → Situation → Line → Option Ruling
ruling_of_line seen s (line.Set set) = None
ruling_of_line seen s (line.Rule rule) =
    if test_passes seen s rule.test then Some (record { name = rule.name; allows = rule.allows }) else None

abbrev pub GivesRuling : List Members → Situation → Line → Option DecidingRule → Type 0
GivesRuling seen s line (Some rule) = ruling_of_line seen s line ≡ Some (ruling_meant rule)
GivesRuling seen s line None = ruling_of_line seen s line ≡ None

-- the rule that decides about a configuration, by the items of these lines
abbrev pub FindsRule : List Line → Situation → DecidingRule → Type 0
FindsRule lines s rule = ruling_meant rule ≡ ruling_of (items_of lines) s
